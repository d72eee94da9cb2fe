-- What `seccomp` stands for: relations between JSON values and the parts of a filter. Nothing is
-- walked here, and no fault of a walk is named.
use Rattle.std.specs.Prelude.{◌≡◌, ℕ, List, [], ◌∷◌, Bool, true, Option, Some, None, bytes_eq}
use Rattle.std.specs.Prelude.{codes, ⊤}
use Rattle.std.specs.List.{list_any}
use Rattle.serde_json.specs.Data.{Data, null, boolean, number, string, array, object, Items}
use Rattle.serde_json.specs.Data.{no_items, item, Members, no_members, member}
use Rattle.seccomp_doc.specs.declared.action.ActionWord.{ActionWord}
use Rattle.seccomp_doc.specs.declared.compare.Op.{Op}
use Rattle.seccomp_doc.specs.declared.parts.ArgParts.{ArgParts}
use Rattle.seccomp_doc.specs.Action.{action_word_named}
use Rattle.seccomp_doc.specs.Checks.{fault_of}
use Rattle.seccomp_doc.specs.Compare.{op_named}
use Rattle.seccomp_doc.specs.Filter.{FilterValue}
use Rattle.seccomp_doc.specs.Parts.{EntryPartsValue, FilterPartsValue, filter_of}
use Rattle.seccomp_doc.specs.Word.{is_arch, is_flag}
use Rattle.profile_text.specs.FilterParts.{u64_of}
use Rattle.profile_text.specs.FilterShape.{is_text}
use Rattle.profile_text.specs.Shape.{member_of}

-- each member, by its name and its value
abbrev pub AllMembers : (List ℕ → Data → Type 0) → Members → Type 0
AllMembers P no_members = ⊤
AllMembers P (member name d ms) = P name d × AllMembers P ms

-- ---- single values

-- the value is the number n
abbrev pub IsNumber : Data → ℕ → Type 0
IsNumber (number x) n = u64_of x ≡ Some n
IsNumber null n = ⊥
IsNumber (boolean b) n = ⊥
IsNumber (string s) n = ⊥
IsNumber (array ds) n = ⊥
IsNumber (object ms) n = ⊥

-- the value is a number, and not an absent one
abbrev pub IsSomeNumber : Data → Option ℕ → Type 0
IsSomeNumber d None = ⊥
IsSomeNumber d (Some n) = IsNumber d n

-- the value is the name of the action
abbrev pub IsAction : Data → ActionWord → Type 0
IsAction (string s) word = action_word_named s ≡ Some word
IsAction null word = ⊥
IsAction (boolean b) word = ⊥
IsAction (number n) word = ⊥
IsAction (array ds) word = ⊥
IsAction (object ms) word = ⊥

-- the value is the name of the operator
abbrev pub IsOp : Data → Op → Type 0
IsOp (string s) op = op_named s ≡ Some op
IsOp null op = ⊥
IsOp (boolean b) op = ⊥
IsOp (number n) op = ⊥
IsOp (array ds) op = ⊥
IsOp (object ms) op = ⊥

-- the value is the text, which is of the form
abbrev pub IsTextOf : (List ℕ → Bool) → Data → List ℕ → Type 0
IsTextOf form (string s) text = (form s ≡ true) × (text ≡ s)
IsTextOf form null text = ⊥
IsTextOf form (boolean b) text = ⊥
IsTextOf form (number n) text = ⊥
IsTextOf form (array ds) text = ⊥
IsTextOf form (object ms) text = ⊥

-- the value is the text
abbrev pub IsText : Data → List ℕ → Type 0
IsText d text = IsTextOf is_text d text

-- ---- lists, and what may be absent

-- the values are those of the list, one for one
abbrev pub AreItems : {X : Type 0} → (Data → X → Type 0) → Items → List X → Type 0
AreItems R no_items [] = ⊤
AreItems R no_items (x ∷ xs) = ⊥
AreItems R (item d ds) [] = ⊥
AreItems R (item d ds) (x ∷ xs) = R d x × AreItems R ds xs

abbrev pub IsList : {X : Type 0} → (Data → X → Type 0) → Data → List X → Type 0
IsList R (array ds) xs = AreItems R ds xs
IsList R null xs = ⊥
IsList R (boolean b) xs = ⊥
IsList R (number n) xs = ⊥
IsList R (string s) xs = ⊥
IsList R (object ms) xs = ⊥

-- null stands for what an absent value is
abbrev pub OrNull : {X : Type 0} → (Data → X → Type 0) → X → Data → X → Type 0
OrNull R absent null x = x ≡ absent
OrNull R absent (boolean b) x = R (boolean b) x
OrNull R absent (number n) x = R (number n) x
OrNull R absent (string s) x = R (string s) x
OrNull R absent (array ds) x = R (array ds) x
OrNull R absent (object ms) x = R (object ms) x

-- the value is something
abbrev pub IsA : {X : Type 0} → (Data → X → Type 0) → Data → Type 0
IsA {X} R d = (x : X) × R d x

-- a member that must be there
abbrev pub Required : {X : Type 0} → (Data → X → Type 0) → Option Data → X → Type 0
Required R None x = ⊥
Required R (Some d) x = R d x

-- a member that may be absent
abbrev pub Optional : {X : Type 0} → (Data → X → Type 0) → X → Option Data → X → Type 0
Optional R absent None x = x ≡ absent
Optional R absent (Some d) x = R d x

-- ---- the objects

-- the name is one of these
abbrev pub IsOneOf : List (List ℕ) → List ℕ → Type 0
IsOneOf names name = list_any (bytes_eq name) names ≡ true

abbrev pub arg_names : List (List ℕ)
arg_names = codes "index" ∷ codes "op" ∷ codes "value" ∷ codes "valueTwo" ∷ []

-- a member of an argument has one of the names, and a value that its name asks for
pub record IsArgMember (name : List ℕ) (d : Data) : Type 0 where
  pub known : IsOneOf arg_names name
  pub index : name ≡ codes "index" → IsA IsNumber d
  pub op : name ≡ codes "op" → IsA IsOp d
  pub value : name ≡ codes "value" → IsA IsNumber d
  pub value_two : name ≡ codes "valueTwo" → IsA (OrNull IsNumber 0) d

pub record MembersAreArg (ms : Members) (a : ArgParts) : Type 0 where
  pub members : AllMembers IsArgMember ms
  pub index : Required IsNumber (member_of (codes "index") ms) a.index
  pub op : Required IsOp (member_of (codes "op") ms) a.op
  pub value : Required IsNumber (member_of (codes "value") ms) a.value
  pub value_two : Optional (OrNull IsNumber 0) 0 (member_of (codes "valueTwo") ms) a.value_two

-- the value is the comparison
abbrev pub IsArg : Data → ArgParts → Type 0
IsArg (object ms) a = MembersAreArg ms a
IsArg null a = ⊥
IsArg (boolean b) a = ⊥
IsArg (number n) a = ⊥
IsArg (string s) a = ⊥
IsArg (array ds) a = ⊥

abbrev pub entry_names : List (List ℕ)
entry_names = codes "action" ∷ codes "args" ∷ codes "errnoRet" ∷ codes "names" ∷ []

-- a list, or an absent one, which is empty
abbrev pub IsListOrNull : {X : Type 0} → (Data → X → Type 0) → Data → List X → Type 0
IsListOrNull R d xs = OrNull (IsList R) [] d xs

abbrev pub IsNumberOrNull : Data → Option ℕ → Type 0
IsNumberOrNull d n = OrNull IsSomeNumber None d n

pub record IsEntryMember (name : List ℕ) (d : Data) : Type 0 where
  pub known : IsOneOf entry_names name
  pub action : name ≡ codes "action" → IsA IsAction d
  pub args : name ≡ codes "args" → IsA (IsListOrNull IsArg) d
  pub errno : name ≡ codes "errnoRet" → IsA IsNumberOrNull d
  pub names : name ≡ codes "names" → IsA (IsList IsText) d

pub record MembersAreEntry (ms : Members) (e : EntryPartsValue) : Type 0 where
  pub members : AllMembers IsEntryMember ms
  pub action : Required IsAction (member_of (codes "action") ms) e.word
  pub args : Optional (IsListOrNull IsArg) [] (member_of (codes "args") ms) e.args
  pub errno : Optional IsNumberOrNull None (member_of (codes "errnoRet") ms) e.errno
  pub names : Required (IsList IsText) (member_of (codes "names") ms) e.names

-- the value is the entry
abbrev pub IsEntry : Data → EntryPartsValue → Type 0
IsEntry (object ms) e = MembersAreEntry ms e
IsEntry null e = ⊥
IsEntry (boolean b) e = ⊥
IsEntry (number n) e = ⊥
IsEntry (string s) e = ⊥
IsEntry (array ds) e = ⊥

abbrev pub seccomp_names : List (List ℕ)
seccomp_names =
    codes "architectures" ∷ codes "defaultAction" ∷ codes "defaultErrnoRet" ∷ codes "flags"
    ∷ codes "syscalls" ∷ []

pub record IsSeccompMember (name : List ℕ) (d : Data) : Type 0 where
  pub known : IsOneOf seccomp_names name
  pub architectures : name ≡ codes "architectures" → IsA (IsListOrNull (IsTextOf is_arch)) d
  pub default : name ≡ codes "defaultAction" → IsA IsAction d
  pub default_errno : name ≡ codes "defaultErrnoRet" → IsA IsNumberOrNull d
  pub flags : name ≡ codes "flags" → IsA (IsListOrNull (IsTextOf is_flag)) d
  pub entries : name ≡ codes "syscalls" → IsA (IsListOrNull IsEntry) d

pub record MembersAreFilter (ms : Members) (p : FilterPartsValue) : Type 0 where
  pub members : AllMembers IsSeccompMember ms
  pub architectures :
      Optional (IsListOrNull (IsTextOf is_arch)) [] (member_of (codes "architectures") ms)
      p.architectures
  pub default : Required IsAction (member_of (codes "defaultAction") ms) p.default
  pub default_errno :
      Optional IsNumberOrNull None (member_of (codes "defaultErrnoRet") ms) p.default_errno
  pub flags : Optional (IsListOrNull (IsTextOf is_flag)) [] (member_of (codes "flags") ms) p.flags
  pub entries : Optional (IsListOrNull IsEntry) [] (member_of (codes "syscalls") ms) p.entries

-- the value is that of the parts of a filter
abbrev pub IsFilter : Data → Option FilterPartsValue → Type 0
IsFilter (object ms) (Some p) = MembersAreFilter ms p
IsFilter (object ms) None = ⊥
IsFilter null p = ⊥
IsFilter (boolean b) p = ⊥
IsFilter (number n) p = ⊥
IsFilter (string s) p = ⊥
IsFilter (array ds) p = ⊥

-- `seccomp`: a filter's parts, or null
abbrev pub IsSeccomp : Data → Option FilterPartsValue → Type 0
IsSeccomp d p = OrNull IsFilter None d p

-- the parts make the filter: none of the refusals stands against them
abbrev pub Makes : Option FilterPartsValue → Option FilterValue → Type 0
Makes None filter = filter ≡ None
Makes (Some p) filter = (fault_of p ≡ None) × (filter ≡ Some (filter_of p))

-- the member stands for the filter; an absent one for none
abbrev pub StandsForFilter : Option Data → Option FilterValue → Type 0
StandsForFilter found filter =
    (p : Option FilterPartsValue) × Optional IsSeccomp None found p × Makes p filter
