-- What a loop over the members of the objects of a filter has found.
use Rattle.std.proofs.Common.{◌≡◌, ◌∙◌, ℕ, List, [], Option, None, option_map, Ok, refl, sym, ap, subst}
use Rattle.std.specs.Option.{option_map_or}
use Rattle.std.specs.Prelude.{codes}
use Rattle.serde_json.specs.Data.{Data, Members, no_members, member}
use Rattle.seccomp_doc.specs.declared.action.ActionWord.{ActionWord}
use Rattle.seccomp_doc.specs.declared.compare.Op.{Op}
use Rattle.seccomp_doc.specs.declared.parts.ArgParts.{ArgParts}
use Rattle.seccomp_doc.specs.Parts.{EntryPartsValue}
use Rattle.profile_text.specs.declared.argument.FoundArg.{FoundArg}
use Rattle.profile_text.specs.FilterFound.{EntryMembers, FilterMembers, arg_found, arg_found_with, entry_found, entry_found_with, filter_found, filter_found_with}
use Rattle.profile_text.specs.FilterParts.{whole_number, number_in, action_in, op_in, string_in, list_as, arg_in, entry_in}
use Rattle.profile_text.specs.FilterShape.{arg_rows, entry_rows, seccomp_rows}
use Rattle.profile_text.specs.Reading.{unless_faulty}
use Rattle.profile_text.specs.Shape.{members_faults, members_over}
use Rattle.profile_text.proofs.Picks.{picked, member_picked}

abbrev list_or_none : {X : Type 0} → (Data → X) → Option Data → List X
list_or_none read o = option_map_or (list_as read) o []

abbrev number_or_none : Option Data → Option ℕ
number_or_none o = option_map_or whole_number o None

abbrev number_or_zero : Option Data → ℕ
number_or_zero o = option_map_or number_in o 0

-- ---- an argument

abbrev pub arg_filled : FoundArg → Members → FoundArg
arg_filled found ms = record {
  index = picked (option_map number_in) (codes "index") found.index ms;
  op = picked (option_map op_in) (codes "op") found.op ms;
  value = picked (option_map number_in) (codes "value") found.value ms;
  value_two = picked number_or_zero (codes "valueTwo") found.value_two ms;
}

abbrev pub no_arg_found : FoundArg
no_arg_found = record { index = None; op = None; value = None; value_two = 0 }

pub arg_start : (ms : Members) → arg_found ms ≡ arg_filled no_arg_found ms
arg_start ms =
    let with_index : Option ℕ → FoundArg = λ x. record { index = x; op = (arg_found ms).op; value = (arg_found ms).value; value_two = (arg_found ms).value_two } in
    let with_op : Option Op → FoundArg = λ x. record { index = (arg_filled no_arg_found ms).index; op = x; value = (arg_found ms).value; value_two = (arg_found ms).value_two } in
    let with_value : Option ℕ → FoundArg = λ x. record { index = (arg_filled no_arg_found ms).index; op = (arg_filled no_arg_found ms).op; value = x; value_two = (arg_found ms).value_two } in
    let with_two : ℕ → FoundArg = λ x. record { index = (arg_filled no_arg_found ms).index; op = (arg_filled no_arg_found ms).op; value = (arg_filled no_arg_found ms).value; value_two = x } in
    ap with_index (member_picked (option_map number_in) (codes "index") None ms)
    ∙ ap with_op (member_picked (option_map op_in) (codes "op") None ms)
    ∙ ap with_value (member_picked (option_map number_in) (codes "value") None ms)
    ∙ ap with_two (member_picked number_or_zero (codes "valueTwo") None ms)

arg_over : (found : FoundArg) (ms : Members) → members_over arg_found_with found ms ≡ arg_filled found ms
arg_over found no_members = refl
arg_over found (member name d ms) = arg_over (arg_found_with name d found) ms

-- what a loop over the members of an argument finds
pub arg_by_members : (ms : Members) → members_over arg_found_with no_arg_found ms ≡ arg_found ms
arg_by_members ms = arg_over no_arg_found ms ∙ sym (arg_start ms)

-- what a walk over its members gives
pub arg_walked : (path : List ℕ) (ms : Members) (found : FoundArg)
    → unless_faulty (members_faults arg_rows path ms) (members_over arg_found_with (no_arg_found) ms) ≡ Ok found → unless_faulty (members_faults arg_rows path ms) (arg_found ms) ≡ Ok found
arg_walked path ms found told = subst (λ x. unless_faulty (members_faults arg_rows path ms) x ≡ Ok found) (arg_by_members ms) told

-- ---- an entry

abbrev pub entry_filled : EntryMembers → Members → EntryMembers
entry_filled found ms = record {
  word = picked (option_map action_in) (codes "action") found.word ms;
  args = picked (list_or_none arg_in) (codes "args") found.args ms;
  errno = picked number_or_none (codes "errnoRet") found.errno ms;
  names = picked (option_map (list_as string_in)) (codes "names") found.names ms;
}

abbrev pub no_entry_found : EntryMembers
no_entry_found = record { word = None; args = []; errno = None; names = None }

pub entry_start : (ms : Members) → entry_found ms ≡ entry_filled no_entry_found ms
entry_start ms =
    let a = entry_found ms in
    let b = entry_filled no_entry_found ms in
    let with_word : Option ActionWord → EntryMembers = λ x. record { word = x; args = a.args; errno = a.errno; names = a.names } in
    let with_args : List ArgParts → EntryMembers = λ x. record { word = b.word; args = x; errno = a.errno; names = a.names } in
    let with_errno : Option ℕ → EntryMembers = λ x. record { word = b.word; args = b.args; errno = x; names = a.names } in
    let with_names : Option (List (List ℕ)) → EntryMembers = λ x. record { word = b.word; args = b.args; errno = b.errno; names = x } in
    ap with_word (member_picked (option_map action_in) (codes "action") None ms)
    ∙ ap with_args (member_picked (list_or_none arg_in) (codes "args") None ms)
    ∙ ap with_errno (member_picked number_or_none (codes "errnoRet") None ms)
    ∙ ap with_names (member_picked (option_map (list_as string_in)) (codes "names") None ms)

entry_over : (found : EntryMembers) (ms : Members) → members_over entry_found_with found ms ≡ entry_filled found ms
entry_over found no_members = refl
entry_over found (member name d ms) = entry_over (entry_found_with name d found) ms

-- what a loop over the members of an entry finds
pub entry_by_members : (ms : Members) → members_over entry_found_with no_entry_found ms ≡ entry_found ms
entry_by_members ms = entry_over no_entry_found ms ∙ sym (entry_start ms)

-- what a walk over its members gives
pub entry_walked : (path : List ℕ) (ms : Members) (args : List ArgParts) (found : EntryMembers) → args ≡ []
    → unless_faulty (members_faults entry_rows path ms) (members_over entry_found_with (record { word = None; args = args; errno = None; names = None }) ms) ≡ Ok found → unless_faulty (members_faults entry_rows path ms) (entry_found ms) ≡ Ok found
entry_walked path ms args found none told =
    subst (λ x. unless_faulty (members_faults entry_rows path ms) x ≡ Ok found) (entry_by_members ms)
    (subst (λ (xs : List ArgParts). unless_faulty (members_faults entry_rows path ms) (members_over entry_found_with (record { word = None; args = xs; errno = None; names = None }) ms) ≡ Ok found) none told)

-- ---- a filter

abbrev pub filter_filled : FilterMembers → Members → FilterMembers
filter_filled found ms = record {
  architectures = picked (list_or_none string_in) (codes "architectures") found.architectures ms;
  default = picked (option_map action_in) (codes "defaultAction") found.default ms;
  default_errno = picked number_or_none (codes "defaultErrnoRet") found.default_errno ms;
  flags = picked (list_or_none string_in) (codes "flags") found.flags ms;
  entries = picked (list_or_none entry_in) (codes "syscalls") found.entries ms;
}

abbrev pub no_filter_found : FilterMembers
no_filter_found = record { architectures = []; default = None; default_errno = None; flags = []; entries = [] }

pub filter_start : (ms : Members) → filter_found ms ≡ filter_filled no_filter_found ms
filter_start ms =
    let a = filter_found ms in
    let b = filter_filled no_filter_found ms in
    let with_architectures : List (List ℕ) → FilterMembers = λ x. record { architectures = x; default = a.default; default_errno = a.default_errno; flags = a.flags; entries = a.entries } in
    let with_default : Option ActionWord → FilterMembers = λ x. record { architectures = b.architectures; default = x; default_errno = a.default_errno; flags = a.flags; entries = a.entries } in
    let with_errno : Option ℕ → FilterMembers = λ x. record { architectures = b.architectures; default = b.default; default_errno = x; flags = a.flags; entries = a.entries } in
    let with_flags : List (List ℕ) → FilterMembers = λ x. record { architectures = b.architectures; default = b.default; default_errno = b.default_errno; flags = x; entries = a.entries } in
    let with_entries : List EntryPartsValue → FilterMembers = λ x. record { architectures = b.architectures; default = b.default; default_errno = b.default_errno; flags = b.flags; entries = x } in
    ap with_architectures (member_picked (list_or_none string_in) (codes "architectures") None ms)
    ∙ ap with_default (member_picked (option_map action_in) (codes "defaultAction") None ms)
    ∙ ap with_errno (member_picked number_or_none (codes "defaultErrnoRet") None ms)
    ∙ ap with_flags (member_picked (list_or_none string_in) (codes "flags") None ms)
    ∙ ap with_entries (member_picked (list_or_none entry_in) (codes "syscalls") None ms)

filter_over : (found : FilterMembers) (ms : Members) → members_over filter_found_with found ms ≡ filter_filled found ms
filter_over found no_members = refl
filter_over found (member name d ms) = filter_over (filter_found_with name d found) ms

-- what a loop over the members of a filter finds
pub filter_by_members : (ms : Members) → members_over filter_found_with no_filter_found ms ≡ filter_found ms
filter_by_members ms = filter_over no_filter_found ms ∙ sym (filter_start ms)

-- what a walk over its members gives
pub filter_walked : (path : List ℕ) (ms : Members) (architectures flags : List (List ℕ)) (entries : List EntryPartsValue) (found : FilterMembers) → architectures ≡ [] → flags ≡ [] → entries ≡ []
    → unless_faulty (members_faults seccomp_rows path ms) (members_over filter_found_with (record { architectures = architectures; default = None; default_errno = None; flags = flags; entries = entries }) ms) ≡ Ok found → unless_faulty (members_faults seccomp_rows path ms) (filter_found ms) ≡ Ok found
filter_walked path ms architectures flags entries found a f e told =
    let P : List (List ℕ) → List (List ℕ) → List EntryPartsValue → Type 0 = λ xs ys zs. unless_faulty (members_faults seccomp_rows path ms) (members_over filter_found_with (record { architectures = xs; default = None; default_errno = None; flags = ys; entries = zs }) ms) ≡ Ok found in
    subst (λ x. unless_faulty (members_faults seccomp_rows path ms) x ≡ Ok found) (filter_by_members ms)
    (subst (λ xs. P xs [] []) a (subst (λ ys. P architectures ys []) f (subst (λ zs. P architectures flags zs) e told)))
