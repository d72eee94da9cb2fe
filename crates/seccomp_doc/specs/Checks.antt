-- What may be wrong with the parts of a filter, in the order of the refusals.
use Rattle.std.specs.Prelude.{◌≡◌, ◌≢◌, ℕ, List, [], ◌∷◌, ◌++◌, Bool, not, ◌&&◌, ◌||◌, ◌==◌, nat_lt}
use Rattle.std.specs.Prelude.{Option, Some, None, is_some, unwrap_or, option_map, Result, Ok, Err}
use Rattle.std.specs.Prelude.{map, find, flat_map, length}
use Rattle.std.specs.List.{list_any}
use Rattle.seccomp_doc.specs.declared.action.ActionWord.{ActionWord}
use Rattle.seccomp_doc.specs.declared.action.Action.{Action}
use Rattle.seccomp_doc.specs.declared.parts.ArgParts.{ArgParts}
use Rattle.seccomp_doc.specs.declared.fault.FilterFault.{FilterFault}
use Rattle.seccomp_doc.specs.declared.fault.FilterFault.TheVariants.{NoNames, BadCallName, BadIndex}
use Rattle.seccomp_doc.specs.declared.fault.FilterFault.TheVariants.{IndexTwice, ErrnoNotTaken}
use Rattle.seccomp_doc.specs.declared.fault.FilterFault.TheVariants.{ErrnoTooLarge, TwoActions}
use Rattle.seccomp_doc.specs.declared.fault.FilterFault.TheVariants.{TooMany, NoMemory}
use Rattle.seccomp_doc.specs.Action.{takes_errno, same_action}
use Rattle.seccomp_doc.specs.Word.{is_call_name}
use Rattle.seccomp_doc.specs.Filter.{EntryValue}
use Rattle.seccomp_doc.specs.Meaning.{has_name}
use Rattle.seccomp_doc.specs.Lawful.{has_repeat}
use Rattle.seccomp_doc.specs.Parts.{EntryPartsValue, FilterPartsValue, entry_of}
use Rattle.no_memory.specs.Witness.{witness}

-- a fault, and whether it stands
abbrev pub Check : Type 0
Check = FilterFault × Bool

-- more names or comparisons than an entry may have
abbrev pub is_large : EntryPartsValue → Bool
is_large e = nat_lt 1024 (length e.names) || nat_lt 6 (length e.args)

-- a count is above its limit
abbrev pub has_too_many : FilterPartsValue → Bool
has_too_many p =
    nat_lt 2048 (length p.entries) || nat_lt 64 (length p.architectures)
    || nat_lt 64 (length p.flags)
    || list_any is_large p.entries

-- the checks of a number beside an action's name
abbrev pub errno_checks : ActionWord → Option ℕ → List Check
errno_checks word errno =
    (ErrnoNotTaken, is_some errno && not (takes_errno word))
    ∷ (ErrnoTooLarge, nat_lt 65535 (unwrap_or errno 1))
    ∷ []

abbrev pub is_no_call_name : List ℕ → Bool
is_no_call_name name = not (is_call_name name)

-- the checks of an entry's names
abbrev pub names_checks : List (List ℕ) → List Check
names_checks names =
    (NoNames, length names == 0) ∷ (BadCallName, list_any is_no_call_name names) ∷ []

-- the checks of an entry's comparisons
abbrev pub arg_checks : List ArgParts → List Check
arg_checks args = (BadIndex, list_any (λ a. nat_lt 5 a.index) args)
    ∷ (IndexTwice, has_repeat (map (λ a. a.index) args)) ∷ []

-- the checks of one entry
abbrev pub entry_checks : EntryPartsValue → List Check
entry_checks e = names_checks e.names ++ arg_checks e.args ++ errno_checks e.word e.errno

-- an entry has the name under another action
abbrev pub contradicts : List ℕ → Action → EntryValue → Bool
contradicts name action e = has_name name e && not (same_action e.action action)

-- an earlier entry has the name under another action
abbrev pub name_check : List EntryValue → Action → List ℕ → Check
name_check earlier action name = (TwoActions name, list_any (contradicts name action) earlier)

-- the checks of an entry's names, each against the earlier entries
abbrev pub name_checks : List EntryValue → EntryValue → List Check
name_checks earlier e = map (name_check earlier e.action) e.names

-- the checks of the names of all entries, in their order, each against the entries before it
unfoldable pub all_name_checks : List EntryValue → List EntryValue → List Check
all_name_checks earlier [] = []
all_name_checks earlier (e ∷ es) = name_checks earlier e ++ all_name_checks (earlier ++ e ∷ []) es

-- the counts, the default, the entries one by one, and then their names
abbrev pub checks : FilterPartsValue → List Check
checks p =
    ((TooMany, has_too_many p) ∷ [])
    ++ errno_checks p.default p.default_errno
    ++ flat_map entry_checks p.entries
    ++ all_name_checks [] (map entry_of p.entries)

-- the first fault that stands
abbrev pub first_fault : List Check → Option FilterFault
first_fault cs = option_map (λ c. c.0) (find (λ c. c.1) cs)

-- why the parts are no filter, if they are none
unfoldable pub fault_of : FilterPartsValue → Option FilterFault
fault_of p = first_fault (checks p)

-- what a step answers: its value where no fault stands, else the first one; memory may be refused
-- in place of either
abbrev pub Answers : {X : Type 0} → Option FilterFault → X → Result X FilterFault → Type 0
Answers fault value (Ok x) = (fault ≡ None) × (x ≡ value)
Answers fault value (Err e) = e ≢ NoMemory witness → fault ≡ Some e
