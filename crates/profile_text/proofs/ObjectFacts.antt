-- Steps of the readers of the objects of a filter.
use Rattle.std.proofs.Common.{◌≡◌, ◌∙◌, ℕ, List, [], true, false, Option, Some, None, option_map, Ok, Err, refl, ap}
use Rattle.std.specs.Prelude.{codes, is_some, unwrap_or}
use Rattle.serde_json.specs.Data.{Data, Members}
use Rattle.seccomp_doc.specs.declared.action.ActionWord.{ActionWord}
use Rattle.seccomp_doc.specs.declared.action.ActionWord.TheVariants.{KillProcess}
use Rattle.seccomp_doc.specs.declared.compare.Op.{Op}
use Rattle.seccomp_doc.specs.declared.compare.Op.TheVariants.{Equal}
use Rattle.seccomp_doc.specs.declared.parts.ArgParts.{ArgParts}
use Rattle.seccomp_doc.specs.Parts.{EntryPartsValue, FilterPartsValue}
use Rattle.profile_text.specs.declared.argument.FoundArg.{FoundArg}
use Rattle.profile_text.specs.declared.fault.DocFault.{DocFault}
use Rattle.profile_text.specs.declared.fault.DocFault.TheVariants.{WrongShape}
use Rattle.profile_text.specs.FilterFound.{EntryMembers, FilterMembers, arg_found, entry_found, filter_found}
use Rattle.profile_text.specs.FilterParts.{number_in, action_in, op_in, string_in, list_as, arg_at, entry_at, filter_at}
use Rattle.profile_text.specs.FilterShape.{arg_rows, entry_rows, seccomp_rows}
use Rattle.profile_text.specs.Reading.{Gives, unless_faulty}
use Rattle.profile_text.specs.Shape.{Row, below, member_of, members_faults, missing_faults, object_faults}
use Rattle.profile_text.proofs.GivesFacts.{gives_first, ok_parts}

-- a member was read, so it is there
pub is_there : {X : Type 0} (read : Data → X) (o : Option Data) (x : X) → option_map read o ≡ Some x → is_some o ≡ true
is_there read None x e = absurd (cc)
is_there read (Some d) x e = refl

-- no member was read, so none is there
pub is_absent : {X : Type 0} (read : Data → X) (o : Option Data) → option_map read o ≡ None → is_some o ≡ false
is_absent read None e = refl
is_absent read (Some d) e = absurd (cc)

-- the fault of a member is the fault of the object
pub object_refused : {X Y : Type 0} (rows : List Row) (path : List ℕ) (ms : Members) (x : X) (y : Y) (fault : DocFault)
    → Gives {X = X} (Err fault) (unless_faulty (members_faults rows path ms) x) → Gives {X = Y} (Err fault) (unless_faulty (object_faults rows path ms) y)
unfolding object_faults
object_refused rows path ms x y fault told = gives_first fault (members_faults rows path ms) (missing_faults rows path ms) x y told

-- ---- an argument

abbrev arg_made : FoundArg → ArgParts
arg_made found = record { index = unwrap_or found.index 0; op = unwrap_or found.op Equal; value = unwrap_or found.value 0; value_two = found.value_two }

pub arg_read : (path : List ℕ) (ms : Members) (found : FoundArg) (index : ℕ) (op : Op) (value : ℕ)
    → unless_faulty (members_faults arg_rows path ms) (arg_found ms) ≡ Ok found → found.index ≡ Some index → found.op ≡ Some op → found.value ≡ Some value
    → unless_faulty (object_faults arg_rows path ms) (arg_at ms) ≡ Ok (record { index = index; op = op; value = value; value_two = found.value_two })
unfolding object_faults arg_at
arg_read path ms found index op value told is_index is_op is_value =
    let parts = ok_parts (members_faults arg_rows path ms) (arg_found ms) found told in
    let index_there = is_there number_in (member_of (codes "index") ms) index (ap (λ (f : FoundArg). f.index) parts.1 ∙ is_index) in
    let op_there = is_there op_in (member_of (codes "op") ms) op (ap (λ (f : FoundArg). f.op) parts.1 ∙ is_op) in
    let value_there = is_there number_in (member_of (codes "value") ms) value (ap (λ (f : FoundArg). f.value) parts.1 ∙ is_value) in
    rw (parts.0, index_there, op_there, value_there) (ap (λ (p : ArgParts). Ok p) (ap arg_made parts.1 ∙ rw (is_index, is_op, is_value) refl))

pub arg_without_index : (path : List ℕ) (ms : Members) (found : FoundArg)
    → unless_faulty (members_faults arg_rows path ms) (arg_found ms) ≡ Ok found → found.index ≡ None
    → unless_faulty (object_faults arg_rows path ms) (arg_at ms) ≡ Err (WrongShape (below path (codes "index")))
unfolding object_faults
arg_without_index path ms found told none =
    let parts = ok_parts (members_faults arg_rows path ms) (arg_found ms) found told in
    let index_absent = is_absent number_in (member_of (codes "index") ms) (ap (λ (f : FoundArg). f.index) parts.1 ∙ none) in
    rw (parts.0, index_absent) refl

pub arg_without_op : (path : List ℕ) (ms : Members) (found : FoundArg) (index : ℕ)
    → unless_faulty (members_faults arg_rows path ms) (arg_found ms) ≡ Ok found → found.index ≡ Some index → found.op ≡ None
    → unless_faulty (object_faults arg_rows path ms) (arg_at ms) ≡ Err (WrongShape (below path (codes "op")))
unfolding object_faults
arg_without_op path ms found index told is_index none =
    let parts = ok_parts (members_faults arg_rows path ms) (arg_found ms) found told in
    let index_there = is_there number_in (member_of (codes "index") ms) index (ap (λ (f : FoundArg). f.index) parts.1 ∙ is_index) in
    let op_absent = is_absent op_in (member_of (codes "op") ms) (ap (λ (f : FoundArg). f.op) parts.1 ∙ none) in
    rw (parts.0, index_there, op_absent) refl

pub arg_without_value : (path : List ℕ) (ms : Members) (found : FoundArg) (index : ℕ) (op : Op)
    → unless_faulty (members_faults arg_rows path ms) (arg_found ms) ≡ Ok found → found.index ≡ Some index → found.op ≡ Some op → found.value ≡ None
    → unless_faulty (object_faults arg_rows path ms) (arg_at ms) ≡ Err (WrongShape (below path (codes "value")))
unfolding object_faults
arg_without_value path ms found index op told is_index is_op none =
    let parts = ok_parts (members_faults arg_rows path ms) (arg_found ms) found told in
    let index_there = is_there number_in (member_of (codes "index") ms) index (ap (λ (f : FoundArg). f.index) parts.1 ∙ is_index) in
    let op_there = is_there op_in (member_of (codes "op") ms) op (ap (λ (f : FoundArg). f.op) parts.1 ∙ is_op) in
    let value_absent = is_absent number_in (member_of (codes "value") ms) (ap (λ (f : FoundArg). f.value) parts.1 ∙ none) in
    rw (parts.0, index_there, op_there, value_absent) refl

-- ---- an entry

abbrev entry_made : EntryMembers → EntryPartsValue
entry_made found = record { names = unwrap_or found.names []; word = unwrap_or found.word KillProcess; errno = found.errno; args = found.args }

pub entry_read : (path : List ℕ) (ms : Members) (found : EntryMembers) (word : ActionWord) (names : List (List ℕ))
    → unless_faulty (members_faults entry_rows path ms) (entry_found ms) ≡ Ok found → found.word ≡ Some word → found.names ≡ Some names
    → unless_faulty (object_faults entry_rows path ms) (entry_at ms) ≡ Ok (record { names = names; word = word; errno = found.errno; args = found.args })
unfolding object_faults entry_at
entry_read path ms found word names told is_word is_names =
    let parts = ok_parts (members_faults entry_rows path ms) (entry_found ms) found told in
    let word_there = is_there action_in (member_of (codes "action") ms) word (ap (λ (f : EntryMembers). f.word) parts.1 ∙ is_word) in
    let names_there = is_there (list_as string_in) (member_of (codes "names") ms) names (ap (λ (f : EntryMembers). f.names) parts.1 ∙ is_names) in
    rw (parts.0, word_there, names_there) (ap (λ (p : EntryPartsValue). Ok p) (ap entry_made parts.1 ∙ rw (is_word, is_names) refl))

pub entry_without_action : (path : List ℕ) (ms : Members) (found : EntryMembers)
    → unless_faulty (members_faults entry_rows path ms) (entry_found ms) ≡ Ok found → found.word ≡ None
    → unless_faulty (object_faults entry_rows path ms) (entry_at ms) ≡ Err (WrongShape (below path (codes "action")))
unfolding object_faults
entry_without_action path ms found told none =
    let parts = ok_parts (members_faults entry_rows path ms) (entry_found ms) found told in
    let word_absent = is_absent action_in (member_of (codes "action") ms) (ap (λ (f : EntryMembers). f.word) parts.1 ∙ none) in
    rw (parts.0, word_absent) refl

pub entry_without_names : (path : List ℕ) (ms : Members) (found : EntryMembers) (word : ActionWord)
    → unless_faulty (members_faults entry_rows path ms) (entry_found ms) ≡ Ok found → found.word ≡ Some word → found.names ≡ None
    → unless_faulty (object_faults entry_rows path ms) (entry_at ms) ≡ Err (WrongShape (below path (codes "names")))
unfolding object_faults
entry_without_names path ms found word told is_word none =
    let parts = ok_parts (members_faults entry_rows path ms) (entry_found ms) found told in
    let word_there = is_there action_in (member_of (codes "action") ms) word (ap (λ (f : EntryMembers). f.word) parts.1 ∙ is_word) in
    let names_absent = is_absent (list_as string_in) (member_of (codes "names") ms) (ap (λ (f : EntryMembers). f.names) parts.1 ∙ none) in
    rw (parts.0, word_there, names_absent) refl

-- ---- a filter

abbrev filter_made : FilterMembers → FilterPartsValue
filter_made found = record { default = unwrap_or found.default KillProcess; default_errno = found.default_errno; architectures = found.architectures; flags = found.flags; entries = found.entries }

pub filter_read : (path : List ℕ) (ms : Members) (found : FilterMembers) (default : ActionWord)
    → unless_faulty (members_faults seccomp_rows path ms) (filter_found ms) ≡ Ok found → found.default ≡ Some default
    → unless_faulty (object_faults seccomp_rows path ms) (filter_at ms)
    ≡ Ok (record { default = default; default_errno = found.default_errno; architectures = found.architectures; flags = found.flags; entries = found.entries })
unfolding object_faults filter_at
filter_read path ms found default told is_default =
    let parts = ok_parts (members_faults seccomp_rows path ms) (filter_found ms) found told in
    let default_there = is_there action_in (member_of (codes "defaultAction") ms) default (ap (λ (f : FilterMembers). f.default) parts.1 ∙ is_default) in
    rw (parts.0, default_there) (ap (λ (p : FilterPartsValue). Ok p) (ap filter_made parts.1 ∙ rw is_default refl))

pub filter_without_default : (path : List ℕ) (ms : Members) (found : FilterMembers)
    → unless_faulty (members_faults seccomp_rows path ms) (filter_found ms) ≡ Ok found → found.default ≡ None
    → unless_faulty (object_faults seccomp_rows path ms) (filter_at ms) ≡ Err (WrongShape (below path (codes "defaultAction")))
unfolding object_faults
filter_without_default path ms found told none =
    let parts = ok_parts (members_faults seccomp_rows path ms) (filter_found ms) found told in
    let default_absent = is_absent action_in (member_of (codes "defaultAction") ms) (ap (λ (f : FilterMembers). f.default) parts.1 ∙ none) in
    rw (parts.0, default_absent) refl
