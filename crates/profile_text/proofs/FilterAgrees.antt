-- Arguments, entries and filters agree with their relations.
use Rattle.std.proofs.Common.{◌≡◌, ℕ, List, [], Bool, true, false, Option, Some, None, refl, subst}
use Rattle.std.specs.Prelude.{codes, is_some, map}
use Rattle.serde_json.specs.Data.{Data, null, boolean, number, string, array, object, Members}
use Rattle.seccomp_doc.specs.declared.parts.ArgParts.{ArgParts}
use Rattle.seccomp_doc.specs.Parts.{EntryPartsValue, FilterPartsValue}
use Rattle.seccomp_doc.specs.Word.{is_arch, is_flag}
use Rattle.profile_text.specs.FilterParts.{number_in, whole_number, action_in, op_in, string_in, list_as, arg_at, arg_in, entry_at, entry_in, filter_at, seccomp_in}
use Rattle.profile_text.specs.FilterReads.{IsNumber, IsNumberOrNull, IsAction, IsOp, IsText, IsTextOf, IsList, IsListOrNull, OrNull, IsA, IsOneOf, arg_names, IsArgMember, IsArg, entry_names, IsEntryMember, IsEntry, seccomp_names, IsSeccompMember, IsFilter, IsSeccomp}
use Rattle.profile_text.specs.FilterShape.{number_faults, action_faults, op_faults, text_faults, is_text, table_faults, arg_rows, arg_faults, entry_rows, entry_faults, seccomp_rows, seccomp_faults}
use Rattle.profile_text.specs.Shape.{Shape, word_faults, list_faults, optional_faults, row_faults, row_named, member_of, members_faults, missing_faults, object_faults}
use Rattle.profile_text.proofs.Agreeing.{Agrees, EachOf, both_empty, list_agrees, null_agrees, all_from, none_from, one_of, known, member_holds, optional_is, optional_same, required_is, required_same, required_there}
use Rattle.profile_text.proofs.ValuesAgree.{number_agrees, some_number_agrees, action_agrees, op_agrees, text_agrees}

number_or_null : Agrees (optional_faults number_faults) number_in (OrNull IsNumber 0)
number_or_null = null_agrees number_faults number_in IsNumber 0 number_agrees refl

some_number_or_null : Agrees (optional_faults number_faults) whole_number IsNumberOrNull
some_number_or_null = null_agrees number_faults whole_number _ None some_number_agrees refl

-- a list that may be null
list_or_null : {X : Type 0} (shape : Shape) (read : Data → X) (R : Data → X → Type 0) → Agrees shape read R → Agrees (optional_faults (list_faults shape)) (list_as read) (IsListOrNull R)
unfolding list_as
list_or_null shape read R agrees = null_agrees (list_faults shape) (list_as read) (IsList R) [] (list_agrees shape read R agrees) refl

-- what a value with no fault stands for
stands_at : {X : Type 0} (shape : Shape) (read : Data → X) (R : Data → X → Type 0) → Agrees shape read R → (path : List ℕ) (d : Data) → shape path d ≡ [] → IsA R d
stands_at shape read R agrees path d e = (read d, agrees.stands path d e)

-- ---- arguments

arg_member_from : (path name : List ℕ) (d : Data) → row_faults (row_named arg_rows name) path d ≡ [] → IsArgMember name d
arg_member_from path name d e =
    let at : (key : List ℕ) → name ≡ key → row_faults (row_named arg_rows key) path d ≡ [] = λ key is. subst (λ n. row_faults (row_named arg_rows n) path d ≡ []) is e in
    record {
      known = known arg_rows path name d e;
      index = λ is. stands_at number_faults number_in IsNumber number_agrees path d (at (codes "index") is);
      op = λ is. stands_at op_faults op_in IsOp op_agrees path d (at (codes "op") is);
      value = λ is. stands_at number_faults number_in IsNumber number_agrees path d (at (codes "value") is);
      value_two = λ is. stands_at (optional_faults number_faults) number_in (OrNull IsNumber 0) number_or_null path d (at (codes "valueTwo") is);
    }

no_arg_member_fault : (path name : List ℕ) (d : Data) → IsArgMember name d → row_faults (row_named arg_rows name) path d ≡ []
no_arg_member_fault path name d h =
    one_of (λ n. IsArgMember n d → row_faults (row_named arg_rows n) path d ≡ []) arg_names name (
      (λ m. let is = m.index refl in number_agrees.faultless path d is.0 is.1),
      (
        (λ m. let is = m.op refl in op_agrees.faultless path d is.0 is.1),
        (
          (λ m. let is = m.value refl in number_agrees.faultless path d is.0 is.1),
          ((λ m. let is = m.value_two refl in number_or_null.faultless path d is.0 is.1), tt),
        ),
      ),
    ) h.known h

index_there : (path : List ℕ) (ms : Members) (a b c : Bool) → is_some (member_of (codes "index") ms) ≡ a → is_some (member_of (codes "op") ms) ≡ b → is_some (member_of (codes "value") ms) ≡ c
    → missing_faults arg_rows path ms ≡ [] → (a ≡ true) × (b ≡ true) × (c ≡ true)
index_there path ms true true true i o v e = (refl, refl, refl)
index_there path ms false b c i o v e = let bad = rw i at e in absurd (cc)
index_there path ms true false c i o v e = let bad = rw (i, o) at e in absurd (cc)
index_there path ms true true false i o v e = let bad = rw (i, o, v) at e in absurd (cc)

arg_stands : (path : List ℕ) (d : Data) → arg_faults path d ≡ [] → IsArg d (arg_in d)
unfolding table_faults object_faults arg_in arg_at
arg_stands path (object ms) e =
    let parts = both_empty (members_faults arg_rows path ms) (missing_faults arg_rows path ms) e in
    let all = all_from IsArgMember arg_rows arg_member_from path ms parts.0 in
    let there = index_there path ms _ _ _ refl refl refl parts.1 in
    record {
      members = all;
      index = required_is number_faults number_in IsNumber 0 number_agrees (member_of (codes "index") ms) there.0 (λ d is. (member_holds IsArgMember (codes "index") ms d all is).index refl);
      op = required_is op_faults op_in IsOp _ op_agrees (member_of (codes "op") ms) there.1 (λ d is. (member_holds IsArgMember (codes "op") ms d all is).op refl);
      value = required_is number_faults number_in IsNumber 0 number_agrees (member_of (codes "value") ms) there.2 (λ d is. (member_holds IsArgMember (codes "value") ms d all is).value refl);
      value_two = optional_is (optional_faults number_faults) number_in (OrNull IsNumber 0) 0 number_or_null (member_of (codes "valueTwo") ms) (λ d is. (member_holds IsArgMember (codes "valueTwo") ms d all is).value_two refl);
    }
arg_stands path null e = absurd (cc)
arg_stands path (boolean b) e = absurd (cc)
arg_stands path (number n) e = absurd (cc)
arg_stands path (string s) e = absurd (cc)
arg_stands path (array ds) e = absurd (cc)

arg_faultless : (path : List ℕ) (d : Data) (a : ArgParts) → IsArg d a → arg_faults path d ≡ []
unfolding table_faults object_faults
arg_faultless path (object ms) a h =
    rw (
      none_from IsArgMember arg_rows no_arg_member_fault path ms h.members,
      required_there IsNumber (member_of (codes "index") ms) a.index h.index,
      required_there IsOp (member_of (codes "op") ms) a.op h.op,
      required_there IsNumber (member_of (codes "value") ms) a.value h.value,
    ) refl
arg_faultless path null a h = absurd h
arg_faultless path (boolean b) a h = absurd h
arg_faultless path (number n) a h = absurd h
arg_faultless path (string s) a h = absurd h
arg_faultless path (array ds) a h = absurd h

arg_same : (d : Data) (a : ArgParts) → IsArg d a → arg_in d ≡ a
unfolding arg_in arg_at
arg_same (object ms) a h =
    rw (
      required_same number_faults number_in IsNumber 0 number_agrees (member_of (codes "index") ms) a.index h.index,
      required_same op_faults op_in IsOp _ op_agrees (member_of (codes "op") ms) a.op h.op,
      required_same number_faults number_in IsNumber 0 number_agrees (member_of (codes "value") ms) a.value h.value,
      optional_same (optional_faults number_faults) number_in (OrNull IsNumber 0) 0 number_or_null (member_of (codes "valueTwo") ms) a.value_two h.value_two,
    ) refl
arg_same null a h = absurd h
arg_same (boolean b) a h = absurd h
arg_same (number n) a h = absurd h
arg_same (string s) a h = absurd h
arg_same (array ds) a h = absurd h

arg_agrees : Agrees arg_faults arg_in IsArg
arg_agrees = record { stands = arg_stands; faultless = arg_faultless; same = arg_same }

args_agree : Agrees (optional_faults (list_faults arg_faults)) (list_as arg_in) (IsListOrNull IsArg)
args_agree = list_or_null arg_faults arg_in IsArg arg_agrees

-- ---- entries

abbrev texts_agree : Agrees (list_faults text_faults) (list_as string_in) (IsList IsText)
texts_agree = list_agrees text_faults string_in IsText (text_agrees is_text)

entry_member_from : (path name : List ℕ) (d : Data) → row_faults (row_named entry_rows name) path d ≡ [] → IsEntryMember name d
entry_member_from path name d e =
    let at : (key : List ℕ) → name ≡ key → row_faults (row_named entry_rows key) path d ≡ [] = λ key is. subst (λ n. row_faults (row_named entry_rows n) path d ≡ []) is e in
    record {
      known = known entry_rows path name d e;
      action = λ is. stands_at action_faults action_in IsAction action_agrees path d (at (codes "action") is);
      args = λ is. stands_at (optional_faults (list_faults arg_faults)) (list_as arg_in) (IsListOrNull IsArg) args_agree path d (at (codes "args") is);
      errno = λ is. stands_at (optional_faults number_faults) whole_number IsNumberOrNull some_number_or_null path d (at (codes "errnoRet") is);
      names = λ is. stands_at (list_faults text_faults) (list_as string_in) (IsList IsText) texts_agree path d (at (codes "names") is);
    }

no_entry_member_fault : (path name : List ℕ) (d : Data) → IsEntryMember name d → row_faults (row_named entry_rows name) path d ≡ []
no_entry_member_fault path name d h =
    one_of (λ n. IsEntryMember n d → row_faults (row_named entry_rows n) path d ≡ []) entry_names name (
      (λ m. let is = m.action refl in action_agrees.faultless path d is.0 is.1),
      (
        (λ m. let is = m.args refl in args_agree.faultless path d is.0 is.1),
        (
          (λ m. let is = m.errno refl in some_number_or_null.faultless path d is.0 is.1),
          ((λ m. let is = m.names refl in texts_agree.faultless path d is.0 is.1), tt),
        ),
      ),
    ) h.known h

action_there : (path : List ℕ) (ms : Members) (a b : Bool) → is_some (member_of (codes "action") ms) ≡ a → is_some (member_of (codes "names") ms) ≡ b → missing_faults entry_rows path ms ≡ [] → (a ≡ true) × (b ≡ true)
action_there path ms true true i o e = (refl, refl)
action_there path ms false b i o e = let bad = rw i at e in absurd (cc)
action_there path ms true false i o e = let bad = rw (i, o) at e in absurd (cc)

entry_stands : (path : List ℕ) (d : Data) → entry_faults path d ≡ [] → IsEntry d (entry_in d)
unfolding table_faults object_faults entry_in entry_at
entry_stands path (object ms) e =
    let parts = both_empty (members_faults entry_rows path ms) (missing_faults entry_rows path ms) e in
    let all = all_from IsEntryMember entry_rows entry_member_from path ms parts.0 in
    let there = action_there path ms _ _ refl refl parts.1 in
    record {
      members = all;
      action = required_is action_faults action_in IsAction _ action_agrees (member_of (codes "action") ms) there.0 (λ d is. (member_holds IsEntryMember (codes "action") ms d all is).action refl);
      args = optional_is (optional_faults (list_faults arg_faults)) (list_as arg_in) (IsListOrNull IsArg) [] args_agree (member_of (codes "args") ms) (λ d is. (member_holds IsEntryMember (codes "args") ms d all is).args refl);
      errno = optional_is (optional_faults number_faults) whole_number IsNumberOrNull None some_number_or_null (member_of (codes "errnoRet") ms) (λ d is. (member_holds IsEntryMember (codes "errnoRet") ms d all is).errno refl);
      names = required_is (list_faults text_faults) (list_as string_in) (IsList IsText) [] texts_agree (member_of (codes "names") ms) there.1 (λ d is. (member_holds IsEntryMember (codes "names") ms d all is).names refl);
    }
entry_stands path null e = absurd (cc)
entry_stands path (boolean b) e = absurd (cc)
entry_stands path (number n) e = absurd (cc)
entry_stands path (string s) e = absurd (cc)
entry_stands path (array ds) e = absurd (cc)

entry_faultless : (path : List ℕ) (d : Data) (a : EntryPartsValue) → IsEntry d a → entry_faults path d ≡ []
unfolding table_faults object_faults
entry_faultless path (object ms) a h =
    rw (
      none_from IsEntryMember entry_rows no_entry_member_fault path ms h.members,
      required_there IsAction (member_of (codes "action") ms) a.word h.action,
      required_there (IsList IsText) (member_of (codes "names") ms) a.names h.names,
    ) refl
entry_faultless path null a h = absurd h
entry_faultless path (boolean b) a h = absurd h
entry_faultless path (number n) a h = absurd h
entry_faultless path (string s) a h = absurd h
entry_faultless path (array ds) a h = absurd h

entry_same : (d : Data) (a : EntryPartsValue) → IsEntry d a → entry_in d ≡ a
unfolding entry_in entry_at
entry_same (object ms) a h =
    rw (
      required_same action_faults action_in IsAction _ action_agrees (member_of (codes "action") ms) a.word h.action,
      optional_same (optional_faults (list_faults arg_faults)) (list_as arg_in) (IsListOrNull IsArg) [] args_agree (member_of (codes "args") ms) a.args h.args,
      optional_same (optional_faults number_faults) whole_number IsNumberOrNull None some_number_or_null (member_of (codes "errnoRet") ms) a.errno h.errno,
      required_same (list_faults text_faults) (list_as string_in) (IsList IsText) [] texts_agree (member_of (codes "names") ms) a.names h.names,
    ) refl
entry_same null a h = absurd h
entry_same (boolean b) a h = absurd h
entry_same (number n) a h = absurd h
entry_same (string s) a h = absurd h
entry_same (array ds) a h = absurd h

entry_agrees : Agrees entry_faults entry_in IsEntry
entry_agrees = record { stands = entry_stands; faultless = entry_faultless; same = entry_same }

entries_agree : Agrees (optional_faults (list_faults entry_faults)) (list_as entry_in) (IsListOrNull IsEntry)
entries_agree = list_or_null entry_faults entry_in IsEntry entry_agrees

-- ---- filters

abbrev words_agree : (form : List ℕ → Bool) → Agrees (optional_faults (list_faults (word_faults form))) (list_as string_in) (IsListOrNull (IsTextOf form))
words_agree form = list_or_null (word_faults form) string_in (IsTextOf form) (text_agrees form)

-- the members of a listener aren't in a document
known_here : (path name : List ℕ) (d : Data) → row_faults (row_named seccomp_rows name) path d ≡ [] → IsOneOf seccomp_names name
known_here path name d e =
    let Faultless : List ℕ → Type 0 = λ n. row_faults (row_named seccomp_rows n) path d ≡ [] in
    let Here : List ℕ → Type 0 = λ n. Faultless n → IsOneOf seccomp_names n in
    let names : List (List ℕ) = map (λ r. r.name) seccomp_rows in
    let each : EachOf Here names =
    ((λ e. refl), ((λ e. refl), ((λ e. refl), ((λ e. refl), ((λ e. absurd (cc)), ((λ e. absurd (cc)), ((λ e. refl), tt))))))) in
    one_of Here names name each (known seccomp_rows path name d e) e

seccomp_member_from : (path name : List ℕ) (d : Data) → row_faults (row_named seccomp_rows name) path d ≡ [] → IsSeccompMember name d
seccomp_member_from path name d e =
    let at : (key : List ℕ) → name ≡ key → row_faults (row_named seccomp_rows key) path d ≡ [] = λ key is. subst (λ n. row_faults (row_named seccomp_rows n) path d ≡ []) is e in
    record {
      known = known_here path name d e;
      architectures = λ is. stands_at (optional_faults (list_faults (word_faults is_arch))) (list_as string_in) (IsListOrNull (IsTextOf is_arch)) (words_agree is_arch) path d (at (codes "architectures") is);
      default = λ is. stands_at action_faults action_in IsAction action_agrees path d (at (codes "defaultAction") is);
      default_errno = λ is. stands_at (optional_faults number_faults) whole_number IsNumberOrNull some_number_or_null path d (at (codes "defaultErrnoRet") is);
      flags = λ is. stands_at (optional_faults (list_faults (word_faults is_flag))) (list_as string_in) (IsListOrNull (IsTextOf is_flag)) (words_agree is_flag) path d (at (codes "flags") is);
      entries = λ is. stands_at (optional_faults (list_faults entry_faults)) (list_as entry_in) (IsListOrNull IsEntry) entries_agree path d (at (codes "syscalls") is);
    }

no_seccomp_member_fault : (path name : List ℕ) (d : Data) → IsSeccompMember name d → row_faults (row_named seccomp_rows name) path d ≡ []
no_seccomp_member_fault path name d h =
    one_of (λ n. IsSeccompMember n d → row_faults (row_named seccomp_rows n) path d ≡ []) seccomp_names name (
      (λ m. let is = m.architectures refl in (words_agree is_arch).faultless path d is.0 is.1),
      (
        (λ m. let is = m.default refl in action_agrees.faultless path d is.0 is.1),
        (
          (λ m. let is = m.default_errno refl in some_number_or_null.faultless path d is.0 is.1),
          (
            (λ m. let is = m.flags refl in (words_agree is_flag).faultless path d is.0 is.1),
            ((λ m. let is = m.entries refl in entries_agree.faultless path d is.0 is.1), tt),
          ),
        ),
      ),
    ) h.known h

default_there : (path : List ℕ) (ms : Members) (a : Bool) → is_some (member_of (codes "defaultAction") ms) ≡ a → missing_faults seccomp_rows path ms ≡ [] → a ≡ true
default_there path ms true i e = refl
default_there path ms false i e = let bad = rw i at e in absurd (cc)

filter_stands : (path : List ℕ) (d : Data) → table_faults seccomp_rows path d ≡ [] → IsFilter d (seccomp_in d)
unfolding table_faults object_faults seccomp_in filter_at
filter_stands path (object ms) e =
    let parts = both_empty (members_faults seccomp_rows path ms) (missing_faults seccomp_rows path ms) e in
    let all = all_from IsSeccompMember seccomp_rows seccomp_member_from path ms parts.0 in
    let there = default_there path ms _ refl parts.1 in
    record {
      members = all;
      architectures = optional_is (optional_faults (list_faults (word_faults is_arch))) (list_as string_in) (IsListOrNull (IsTextOf is_arch)) [] (words_agree is_arch) (member_of (codes "architectures") ms) (λ d is. (member_holds IsSeccompMember (codes "architectures") ms d all is).architectures refl);
      default = required_is action_faults action_in IsAction _ action_agrees (member_of (codes "defaultAction") ms) there (λ d is. (member_holds IsSeccompMember (codes "defaultAction") ms d all is).default refl);
      default_errno = optional_is (optional_faults number_faults) whole_number IsNumberOrNull None some_number_or_null (member_of (codes "defaultErrnoRet") ms) (λ d is. (member_holds IsSeccompMember (codes "defaultErrnoRet") ms d all is).default_errno refl);
      flags = optional_is (optional_faults (list_faults (word_faults is_flag))) (list_as string_in) (IsListOrNull (IsTextOf is_flag)) [] (words_agree is_flag) (member_of (codes "flags") ms) (λ d is. (member_holds IsSeccompMember (codes "flags") ms d all is).flags refl);
      entries = optional_is (optional_faults (list_faults entry_faults)) (list_as entry_in) (IsListOrNull IsEntry) [] entries_agree (member_of (codes "syscalls") ms) (λ d is. (member_holds IsSeccompMember (codes "syscalls") ms d all is).entries refl);
    }
filter_stands path null e = absurd (cc)
filter_stands path (boolean b) e = absurd (cc)
filter_stands path (number n) e = absurd (cc)
filter_stands path (string s) e = absurd (cc)
filter_stands path (array ds) e = absurd (cc)

filter_faultless : (path : List ℕ) (d : Data) (p : Option FilterPartsValue) → IsFilter d p → table_faults seccomp_rows path d ≡ []
unfolding table_faults object_faults
filter_faultless path (object ms) (Some p) h =
    rw (
      none_from IsSeccompMember seccomp_rows no_seccomp_member_fault path ms h.members,
      required_there IsAction (member_of (codes "defaultAction") ms) p.default h.default,
    ) refl
filter_faultless path (object ms) None h = absurd h
filter_faultless path null p h = absurd h
filter_faultless path (boolean b) p h = absurd h
filter_faultless path (number n) p h = absurd h
filter_faultless path (string s) p h = absurd h
filter_faultless path (array ds) p h = absurd h

filter_same : (d : Data) (p : Option FilterPartsValue) → IsFilter d p → seccomp_in d ≡ p
unfolding seccomp_in filter_at
filter_same (object ms) (Some p) h =
    rw (
      optional_same (optional_faults (list_faults (word_faults is_arch))) (list_as string_in) (IsListOrNull (IsTextOf is_arch)) [] (words_agree is_arch) (member_of (codes "architectures") ms) p.architectures h.architectures,
      required_same action_faults action_in IsAction _ action_agrees (member_of (codes "defaultAction") ms) p.default h.default,
      optional_same (optional_faults number_faults) whole_number IsNumberOrNull None some_number_or_null (member_of (codes "defaultErrnoRet") ms) p.default_errno h.default_errno,
      optional_same (optional_faults (list_faults (word_faults is_flag))) (list_as string_in) (IsListOrNull (IsTextOf is_flag)) [] (words_agree is_flag) (member_of (codes "flags") ms) p.flags h.flags,
      optional_same (optional_faults (list_faults entry_faults)) (list_as entry_in) (IsListOrNull IsEntry) [] entries_agree (member_of (codes "syscalls") ms) p.entries h.entries,
    ) refl
filter_same (object ms) None h = absurd h
filter_same null p h = absurd h
filter_same (boolean b) p h = absurd h
filter_same (number n) p h = absurd h
filter_same (string s) p h = absurd h
filter_same (array ds) p h = absurd h

filter_agrees : Agrees (table_faults seccomp_rows) seccomp_in IsFilter
filter_agrees = record { stands = filter_stands; faultless = filter_faultless; same = filter_same }

pub seccomp_agrees : Agrees seccomp_faults seccomp_in IsSeccomp
unfolding seccomp_in
seccomp_agrees = null_agrees (table_faults seccomp_rows) seccomp_in IsFilter None filter_agrees refl
