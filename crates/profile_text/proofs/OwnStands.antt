-- The JSON of a filter stands for its own parts.
use Rattle.std.proofs.Common.{◌≡◌, ◌∙◌, ℕ, ◌^◌, ◌<◌, List, [], ◌∷◌, All, map, Bool, true, false, Option, Some, None, bytes_eq, refl, sym, subst, arith, lt-ltb}
use Rattle.std.specs.Prelude.{codes}
use Rattle.std.proofs.lemmas.List.Elements.{All-head, All-tail, All-weaker}
use Rattle.std.proofs.lemmas.Slice.Eq.{bytes_eq-Decides}
use Rattle.std.proofs.lemmas.Bool.{false≢true}
use Rattle.serde_json.specs.Data.{Data, string, number, unsigned}
use Rattle.serde_json.specs.View.{items_of}
use Rattle.seccomp_doc.specs.declared.action.Action.{Action}
use Rattle.seccomp_doc.specs.declared.action.Action.TheVariants as actions
use Rattle.seccomp_doc.specs.declared.action.ActionWord.{ActionWord}
use Rattle.seccomp_doc.specs.declared.action.ActionWord.TheVariants as words
use Rattle.seccomp_doc.specs.declared.compare.Compare.{Compare}
use Rattle.seccomp_doc.specs.declared.compare.Op.{Op}
use Rattle.seccomp_doc.specs.declared.compare.Op.TheVariants.{NotEqual, LessThan, LessOrEqual, Equal, GreaterOrEqual, GreaterThan, MaskedEqual}
use Rattle.seccomp_doc.specs.Action.{action_word_named, action_word_text, errno_of, word_of}
use Rattle.seccomp_doc.specs.Compare.{is_masked, op_named, op_text}
use Rattle.seccomp_doc.specs.Filter.{EntryValue, FilterValue}
use Rattle.seccomp_doc.specs.Lawful.{IsLawfulAction, IsLawfulCompare, IsLawfulEntry}
use Rattle.seccomp_doc.specs.Word.{is_arch, is_flag}
use Rattle.profile_text.specs.FilterParts.{u64_of}
use Rattle.profile_text.specs.FilterReads.{AreItems, IsA, IsAction, IsArg, IsArgMember, IsEntry, IsEntryMember, IsFilter, IsList, IsListOrNull, IsNumber, IsNumberOrNull, IsOp, IsSeccompMember, IsText, IsTextOf, Optional, OrNull, Required}
use Rattle.profile_text.specs.Reads.{IsWhole}
use Rattle.profile_text.specs.Text.{arg_data, entry_data, errno_data, filter_data, some_list, texts_data, value_two_data}
use Rattle.profile_text.proofs.Listed.{Rows, found_at, HoldsIf, all_listed}
use Rattle.profile_text.proofs.OwnParts.{own_arg, own_entry, own_parts}

-- two names that differ
apart : {X : Type 0} (a b : List ℕ) → a ≡ b → bytes_eq a b ≡ false → X
apart a b same other = absurd (false≢true (sym other ∙ (bytes_eq-Decides a b).1 same))

-- ---- single values

own_number : (n : ℕ) → n < 2 ^ 64 → IsNumber (number (unsigned n)) n
unfolding u64_of
own_number n h = rw (lt-ltb n (2 ^ 64) h) refl

own_word : (word : ActionWord) → IsAction (string (action_word_text word)) word
unfolding action_word_named
own_word words.KillProcess = refl
own_word words.KillThread = refl
own_word words.Trap = refl
own_word words.Errno = refl
own_word words.Trace = refl
own_word words.Log = refl
own_word words.Allow = refl

own_op : (op : Op) → IsOp (string (op_text op)) op
unfolding op_named
own_op NotEqual = refl
own_op LessThan = refl
own_op LessOrEqual = refl
own_op Equal = refl
own_op GreaterOrEqual = refl
own_op GreaterThan = refl
own_op MaskedEqual = refl

-- ---- lists

items_are : {X Y : Type 0} (written : X → Data) (own : X → Y) (R : Data → Y → Type 0) (xs : List X) → All (λ x. R (written x) (own x)) xs → AreItems R (items_of (map written xs)) (map own xs)
items_are written own R [] all = tt
items_are {X} written own R (x ∷ xs) all =
    let P : X → Type 0 = λ y. R (written y) (own y) in
    (All-head P x xs all, items_are written own R xs (All-tail P x xs all))

-- a list that is left out where it is empty
abbrev IsListIf : {Y : Type 0} → (Data → Y → Type 0) → Option Data → List Y → Type 0
IsListIf R o ys = Optional (IsListOrNull R) [] o ys

list_is : {X Y : Type 0} (written : X → Data) (own : X → Y) (R : Data → Y → Type 0) (xs : List X) → All (λ x. R (written x) (own x)) xs → IsListIf R (some_list (map written xs)) (map own xs)
list_is written own R [] all = refl
list_is written own R (x ∷ xs) all = items_are written own R (x ∷ xs) all

texts_are : (form : List ℕ → Bool) (texts : List (List ℕ)) → All (λ s. form s ≡ true) texts → AreItems (IsTextOf form) (items_of (map string texts)) texts
texts_are form [] all = tt
texts_are form (s ∷ texts) all =
    let P : List ℕ → Type 0 = λ t. form t ≡ true in
    ((All-head P s texts all, refl), texts_are form texts (All-tail P s texts all))

words_are : (form : List ℕ → Bool) (texts : List (List ℕ)) → All (λ s. form s ≡ true) texts → IsListIf (IsTextOf form) (some_list (map string texts)) texts
words_are form [] all = refl
words_are form (s ∷ texts) all = texts_are form (s ∷ texts) all

plain_texts : (texts : List (List ℕ)) → AreItems IsText (items_of (map string texts)) texts
plain_texts [] = tt
plain_texts (s ∷ texts) = ((refl, refl), plain_texts texts)

-- ---- what is there is something

abbrev IsAIf : {X : Type 0} → (Data → X → Type 0) → Option Data → Type 0
IsAIf R None = Unit {0}
IsAIf R (Some d) = IsA R d

a_if : {X : Type 0} (R : Data → X → Type 0) (absent : X) (o : Option Data) (x : X) → Optional R absent o x → IsAIf R o
a_if R absent None x h = tt
a_if R absent (Some d) x h = (x, h)

holds_if : {X : Type 0} (P : List ℕ → Data → Type 0) (R : Data → X → Type 0) (name : List ℕ) → ((d : Data) → IsA R d → P name d) → (o : Option Data) → IsAIf R o → HoldsIf P name o
holds_if P R name each None h = tt
holds_if P R name each (Some d) h = each d h

-- ---- an argument

two_is : (op : Op) (two : ℕ) → two < 2 ^ 64 → (is_masked op ≡ false → two ≡ 0) → Optional (OrNull IsNumber 0) 0 (value_two_data op two) two
two_is NotEqual two h unused = unused refl
two_is LessThan two h unused = unused refl
two_is LessOrEqual two h unused = unused refl
two_is Equal two h unused = unused refl
two_is GreaterOrEqual two h unused = unused refl
two_is GreaterThan two h unused = unused refl
two_is MaskedEqual two h unused = own_number two h

-- a member of an argument
index_member : (d : Data) → IsA IsNumber d → IsArgMember (codes "index") d
index_member d h = record { known = refl; index = λ is. h; op = λ is. apart _ _ is refl; value = λ is. apart _ _ is refl; value_two = λ is. apart _ _ is refl }

op_member : (d : Data) → IsA IsOp d → IsArgMember (codes "op") d
op_member d h = record { known = refl; index = λ is. apart _ _ is refl; op = λ is. h; value = λ is. apart _ _ is refl; value_two = λ is. apart _ _ is refl }

value_member : (d : Data) → IsA IsNumber d → IsArgMember (codes "value") d
value_member d h = record { known = refl; index = λ is. apart _ _ is refl; op = λ is. apart _ _ is refl; value = λ is. h; value_two = λ is. apart _ _ is refl }

second_member : (d : Data) → IsA (OrNull IsNumber 0) d → IsArgMember (codes "valueTwo") d
second_member d h = record { known = refl; index = λ is. apart _ _ is refl; op = λ is. apart _ _ is refl; value = λ is. apart _ _ is refl; value_two = λ is. h }

abbrev arg_members : (index op value : Data) → Option Data → Rows
arg_members index op value two = (codes "index", Some index) ∷ (codes "op", Some op) ∷ (codes "value", Some value) ∷ (codes "valueTwo", two) ∷ []

own_arg_is : (c : Compare) → IsLawfulCompare c → IsArg (arg_data c) (own_arg c)
own_arg_is c h =
    let low = h.index in
    let index = number (unsigned c.index) in
    let op = string (op_text c.op) in
    let value = number (unsigned c.value) in
    let two = value_two_data c.op c.value_two in
    let rows = arg_members index op value two in
    let index_is : IsNumber index c.index = own_number c.index (omega arith) in
    let op_is : IsOp op c.op = own_op c.op in
    let value_is : IsNumber value c.value = own_number c.value h.value in
    let two_here = two_is c.op c.value_two h.value_two h.unused in
    record {
      members = all_listed IsArgMember rows
          (index_member index (c.index, index_is), (op_member op (c.op, op_is), (value_member value (c.value, value_is), (holds_if IsArgMember (OrNull IsNumber 0) (codes "valueTwo") second_member two (a_if (OrNull IsNumber 0) 0 two c.value_two two_here), tt))));
      index = subst (λ o. Required IsNumber o c.index) (sym (found_at (codes "index") rows (Some index) refl)) index_is;
      op = subst (λ o. Required IsOp o c.op) (sym (found_at (codes "op") rows (Some op) refl)) op_is;
      value = subst (λ o. Required IsNumber o c.value) (sym (found_at (codes "value") rows (Some value) refl)) value_is;
      value_two = subst (λ o. Optional (OrNull IsNumber 0) 0 o c.value_two) (sym (found_at (codes "valueTwo") rows two refl)) two_here;
    }

-- ---- an entry

errno_is : (a : Action) → IsLawfulAction a → Optional IsNumberOrNull None (errno_data (errno_of a)) (errno_of a)
errno_is actions.KillProcess h = refl
errno_is actions.KillThread h = refl
errno_is actions.Trap h = refl
errno_is (actions.Errno n) h = let small = h n refl in own_number n (omega arith)
errno_is (actions.Trace n) h = let small = h n refl in own_number n (omega arith)
errno_is actions.Log h = refl
errno_is actions.Allow h = refl

action_member : (d : Data) → IsA IsAction d → IsEntryMember (codes "action") d
action_member d h = record { known = refl; action = λ is. h; args = λ is. apart _ _ is refl; errno = λ is. apart _ _ is refl; names = λ is. apart _ _ is refl }

args_member : (d : Data) → IsA (IsListOrNull IsArg) d → IsEntryMember (codes "args") d
args_member d h = record { known = refl; action = λ is. apart _ _ is refl; args = λ is. h; errno = λ is. apart _ _ is refl; names = λ is. apart _ _ is refl }

errno_member : (d : Data) → IsA IsNumberOrNull d → IsEntryMember (codes "errnoRet") d
errno_member d h = record { known = refl; action = λ is. apart _ _ is refl; args = λ is. apart _ _ is refl; errno = λ is. h; names = λ is. apart _ _ is refl }

names_member : (d : Data) → IsA (IsList IsText) d → IsEntryMember (codes "names") d
names_member d h = record { known = refl; action = λ is. apart _ _ is refl; args = λ is. apart _ _ is refl; errno = λ is. apart _ _ is refl; names = λ is. h }

abbrev entry_members : (action : Data) → (args errno : Option Data) → (names : Data) → Rows
entry_members action args errno names = (codes "action", Some action) ∷ (codes "args", args) ∷ (codes "errnoRet", errno) ∷ (codes "names", Some names) ∷ []

args_of : (cs : List Compare) → All IsLawfulCompare cs → All (λ c. IsArg (arg_data c) (own_arg c)) cs
args_of cs all = All-weaker IsLawfulCompare (λ c. IsArg (arg_data c) (own_arg c)) own_arg_is cs all

own_entry_is : (e : EntryValue) → IsLawfulEntry e → IsEntry (entry_data e) (own_entry e)
own_entry_is e h =
    let action = string (action_word_text (word_of e.action)) in
    let args = some_list (map arg_data e.args) in
    let errno = errno_data (errno_of e.action) in
    let names = texts_data e.names in
    let rows = entry_members action args errno names in
    let action_is : IsAction action (word_of e.action) = own_word (word_of e.action) in
    let args_are : IsListIf IsArg args (map own_arg e.args) = list_is arg_data own_arg IsArg e.args (args_of e.args h.args) in
    let errno_here = errno_is e.action h.action in
    let names_are : IsList IsText names e.names = plain_texts e.names in
    record {
      members = all_listed IsEntryMember rows
          (action_member action (word_of e.action, action_is), (holds_if IsEntryMember (IsListOrNull IsArg) (codes "args") args_member args (a_if (IsListOrNull IsArg) [] args _ args_are), (holds_if IsEntryMember IsNumberOrNull (codes "errnoRet") errno_member errno (a_if IsNumberOrNull None errno _ errno_here), (names_member names (e.names, names_are), tt))));
      action = subst (λ o. Required IsAction o (word_of e.action)) (sym (found_at (codes "action") rows (Some action) refl)) action_is;
      args = subst (λ o. IsListIf IsArg o (map own_arg e.args)) (sym (found_at (codes "args") rows args refl)) args_are;
      errno = subst (λ o. Optional IsNumberOrNull None o (errno_of e.action)) (sym (found_at (codes "errnoRet") rows errno refl)) errno_here;
      names = subst (λ o. Required (IsList IsText) o e.names) (sym (found_at (codes "names") rows (Some names) refl)) names_are;
    }

-- ---- a filter

architectures_member : (d : Data) → IsA (IsListOrNull (IsTextOf is_arch)) d → IsSeccompMember (codes "architectures") d
architectures_member d h = record { known = refl; architectures = λ is. h; default = λ is. apart _ _ is refl; default_errno = λ is. apart _ _ is refl; flags = λ is. apart _ _ is refl; entries = λ is. apart _ _ is refl }

default_member : (d : Data) → IsA IsAction d → IsSeccompMember (codes "defaultAction") d
default_member d h = record { known = refl; architectures = λ is. apart _ _ is refl; default = λ is. h; default_errno = λ is. apart _ _ is refl; flags = λ is. apart _ _ is refl; entries = λ is. apart _ _ is refl }

default_errno_member : (d : Data) → IsA IsNumberOrNull d → IsSeccompMember (codes "defaultErrnoRet") d
default_errno_member d h = record { known = refl; architectures = λ is. apart _ _ is refl; default = λ is. apart _ _ is refl; default_errno = λ is. h; flags = λ is. apart _ _ is refl; entries = λ is. apart _ _ is refl }

flags_member : (d : Data) → IsA (IsListOrNull (IsTextOf is_flag)) d → IsSeccompMember (codes "flags") d
flags_member d h = record { known = refl; architectures = λ is. apart _ _ is refl; default = λ is. apart _ _ is refl; default_errno = λ is. apart _ _ is refl; flags = λ is. h; entries = λ is. apart _ _ is refl }

entries_member : (d : Data) → IsA (IsListOrNull IsEntry) d → IsSeccompMember (codes "syscalls") d
entries_member d h = record { known = refl; architectures = λ is. apart _ _ is refl; default = λ is. apart _ _ is refl; default_errno = λ is. apart _ _ is refl; flags = λ is. apart _ _ is refl; entries = λ is. h }

abbrev filter_members : (architectures : Option Data) → (default : Data) → (errno flags entries : Option Data) → Rows
filter_members architectures default errno flags entries =
    (codes "architectures", architectures) ∷ (codes "defaultAction", Some default) ∷ (codes "defaultErrnoRet", errno) ∷ (codes "flags", flags) ∷ (codes "syscalls", entries) ∷ []

entries_of : (es : List EntryValue) → All IsLawfulEntry es → All (λ e. IsEntry (entry_data e) (own_entry e)) es
entries_of es all = All-weaker IsLawfulEntry (λ e. IsEntry (entry_data e) (own_entry e)) own_entry_is es all

pub own_parts_are : (f : FilterValue) → IsWhole f → IsFilter (filter_data f) (Some (own_parts f))
own_parts_are f h =
    let architectures = some_list (map string f.architectures) in
    let default = string (action_word_text (word_of f.default)) in
    let errno = errno_data (errno_of f.default) in
    let flags = some_list (map string f.flags) in
    let entries = some_list (map entry_data f.entries) in
    let rows = filter_members architectures default errno flags entries in
    let architectures_are : IsListIf (IsTextOf is_arch) architectures f.architectures = words_are is_arch f.architectures h.architectures in
    let default_is : IsAction default (word_of f.default) = own_word (word_of f.default) in
    let errno_here = errno_is f.default h.lawful.default in
    let flags_are : IsListIf (IsTextOf is_flag) flags f.flags = words_are is_flag f.flags h.flags in
    let entries_are : IsListIf IsEntry entries (map own_entry f.entries) = list_is entry_data own_entry IsEntry f.entries (entries_of f.entries h.lawful.entries) in
    record {
      members = all_listed IsSeccompMember rows (
        holds_if IsSeccompMember (IsListOrNull (IsTextOf is_arch)) (codes "architectures") architectures_member architectures (a_if (IsListOrNull (IsTextOf is_arch)) [] architectures _ architectures_are),
        (
          default_member default (word_of f.default, default_is),
          (
            holds_if IsSeccompMember IsNumberOrNull (codes "defaultErrnoRet") default_errno_member errno (a_if IsNumberOrNull None errno _ errno_here),
            (
              holds_if IsSeccompMember (IsListOrNull (IsTextOf is_flag)) (codes "flags") flags_member flags (a_if (IsListOrNull (IsTextOf is_flag)) [] flags _ flags_are),
              (holds_if IsSeccompMember (IsListOrNull IsEntry) (codes "syscalls") entries_member entries (a_if (IsListOrNull IsEntry) [] entries _ entries_are), tt),
            ),
          ),
        ),
      );
      architectures = subst (λ o. IsListIf (IsTextOf is_arch) o f.architectures) (sym (found_at (codes "architectures") rows architectures refl)) architectures_are;
      default = subst (λ o. Required IsAction o (word_of f.default)) (sym (found_at (codes "defaultAction") rows (Some default) refl)) default_is;
      default_errno = subst (λ o. Optional IsNumberOrNull None o (errno_of f.default)) (sym (found_at (codes "defaultErrnoRet") rows errno refl)) errno_here;
      flags = subst (λ o. IsListIf (IsTextOf is_flag) o f.flags) (sym (found_at (codes "flags") rows flags refl)) flags_are;
      entries = subst (λ o. IsListIf IsEntry o (map own_entry f.entries)) (sym (found_at (codes "syscalls") rows entries refl)) entries_are;
    }
