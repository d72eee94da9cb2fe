-- Want of memory is never what bytes read as: each fault of the walk, of the sets and of a filter is another one.
use Rattle.std.proofs.Common.{◌≡◌, ℕ, ◌+◌, List, [], ◌∷◌, ◌++◌, Bool, true, false, cond, map, length, Option, Some, None, bytes_eq, Result, Ok, Err, refl, subst}
use Rattle.std.specs.List.{flat_map}
use Rattle.std.specs.Prelude.{◌&&◌, decimal, filter, is_some, nat_lt, not}
use Rattle.serde_json.specs.Data.{Data, null, boolean, number, string, array, object, Items, no_items, item, Members, no_members, member}
use Rattle.cap_sets.specs.declared.state.CapState.{CapState}
use Rattle.cap_sets.specs.declared.state.CapFault.{CapFault}
use Rattle.seccomp_doc.specs.declared.fault.FilterFault.{FilterFault}
use Rattle.seccomp_doc.specs.declared.fault.FilterFault.TheVariants as filter_faults
use Rattle.seccomp_doc.specs.declared.action.Action.{Action}
use Rattle.seccomp_doc.specs.Checks.{Check, all_name_checks, entry_checks, errno_checks, fault_of, first_fault, has_too_many, name_check, name_checks}
use Rattle.seccomp_doc.specs.Filter.{EntryValue, FilterValue}
use Rattle.seccomp_doc.specs.Parts.{EntryPartsValue, FilterPartsValue, entry_of, filter_of}
use Rattle.profile_text.specs.declared.fault.DocFault.{DocFault}
use Rattle.profile_text.specs.declared.fault.DocFault.TheVariants as faults
use Rattle.profile_text.specs.declared.profile.Profile.{Profile}
use Rattle.profile_text.specs.Document.{caps_faults, caps_rows, document_faults, document_rows, is_cap_name}
use Rattle.profile_text.specs.FilterParts.{u64_of}
use Rattle.profile_text.specs.FilterShape.{action_faults, arg_rows, entry_rows, is_action_name, is_notify, is_text, number_faults, seccomp_rows, table_faults}
use Rattle.profile_text.specs.Parts.{document_parts}
use Rattle.profile_text.specs.Reading.{◌>>=◌, caps_or_fault, filter_or_fault, if_short, json_of, most_bytes, profile_of, profile_of_json, reading_of, stored_reading_of, unless_faulty, unless_unlawful}
use Rattle.profile_text.specs.Shape.{Row, Shape, below, items_faults, list_faults, member_of, members_faults, missing_faults, object_faults, optional_faults, refused_faults, row_faults, row_named, word_faults}
use Rattle.profile_text.specs.State.{state_of}
use Rattle.profile_text.specs.Text.{text_of}
use Rattle.no_memory.specs.Witness.{witness}

-- a fault other than out of memory
abbrev IsFilterFault : FilterFault → Type 0
IsFilterFault (filter_faults.NoMemory _) = ⊥
IsFilterFault _ = Unit {0}

abbrev IsFault : DocFault → Type 0
IsFault (faults.NoMemory _) = ⊥
IsFault (faults.Filter fault) = IsFilterFault fault
IsFault _ = Unit {0}

abbrev AreFaults : List DocFault → Type 0
AreFaults [] = Unit {0}
AreFaults (fault ∷ found) = IsFault fault × AreFaults found

both_are : (a b : List DocFault) → AreFaults a → AreFaults b → AreFaults (a ++ b)
both_are [] b h k = k
both_are (fault ∷ a) b h k = (h.0, both_are a b h.1 k)

-- each value has faults alone
Tells : Shape → Type 0
Tells shape = (path : List ℕ) (d : Data) → AreFaults (shape path d)

one_or_none : (b : Bool) (fault : DocFault) → IsFault fault → AreFaults (cond b [] (fault ∷ []))
one_or_none true fault h = tt
one_or_none false fault h = (h, tt)

word_tells : (form : List ℕ → Bool) → Tells (word_faults form)
unfolding Tells word_faults
word_tells form path (string s) = one_or_none (form s) (faults.UnknownWord path) tt
word_tells form path null = (tt, tt)
word_tells form path (boolean b) = (tt, tt)
word_tells form path (number n) = (tt, tt)
word_tells form path (array ds) = (tt, tt)
word_tells form path (object ms) = (tt, tt)

number_tells : Tells number_faults
unfolding Tells number_faults
number_tells path (number n) = one_or_none (is_some (u64_of n)) (faults.BadNumber path) tt
number_tells path null = (tt, tt)
number_tells path (boolean b) = (tt, tt)
number_tells path (string s) = (tt, tt)
number_tells path (array ds) = (tt, tt)
number_tells path (object ms) = (tt, tt)

action_by : (path : List ℕ) (d : Data) (b : Bool) → AreFaults (word_faults is_action_name path d) → AreFaults (cond b (refused_faults path d) (word_faults is_action_name path d))
action_by path d true h = (tt, tt)
action_by path d false h = h

action_tells : Tells action_faults
unfolding Tells action_faults
action_tells path d = action_by path d (is_notify d) (word_tells is_action_name path d)

items_tell : (shape : Shape) → Tells shape → (path : List ℕ) (i : ℕ) (ds : Items) → AreFaults (items_faults shape path i ds)
unfolding Tells items_faults
items_tell shape tells path i no_items = tt
items_tell shape tells path i (item d ds) = both_are (shape (below path (decimal i)) d) (items_faults shape path (i + 1) ds) (tells (below path (decimal i)) d) (items_tell shape tells path (i + 1) ds)

list_tells : (shape : Shape) → Tells shape → Tells (list_faults shape)
unfolding Tells list_faults
list_tells shape tells path (array ds) = items_tell shape tells path 0 ds
list_tells shape tells path null = (tt, tt)
list_tells shape tells path (boolean b) = (tt, tt)
list_tells shape tells path (number n) = (tt, tt)
list_tells shape tells path (string s) = (tt, tt)
list_tells shape tells path (object ms) = (tt, tt)

optional_tells : (shape : Shape) → Tells shape → Tells (optional_faults shape)
unfolding Tells optional_faults
optional_tells shape tells path null = tt
optional_tells shape tells path (boolean b) = tells path (boolean b)
optional_tells shape tells path (number n) = tells path (number n)
optional_tells shape tells path (string s) = tells path (string s)
optional_tells shape tells path (array ds) = tells path (array ds)
optional_tells shape tells path (object ms) = tells path (object ms)

refused_tells : Tells refused_faults
unfolding Tells
refused_tells path d = (tt, tt)

-- ---- objects

abbrev RowsTell : List Row → Type 0
RowsTell [] = Unit {0}
RowsTell (row ∷ rows) = Tells row.shape × RowsTell rows

row_by : (row : Row) (found : Option Row) (path : List ℕ) (d : Data) (b : Bool) → Tells row.shape → AreFaults (row_faults found path d) → AreFaults (row_faults (cond b (Some row) found) path d)
unfolding Tells
row_by row found path d true tells h = tells path d
row_by row found path d false tells h = h

row_tells : (rows : List Row) → RowsTell rows → (name path : List ℕ) (d : Data) → AreFaults (row_faults (row_named rows name) path d)
row_tells [] tell name path d = (tt, tt)
row_tells (row ∷ rows) tell name path d = row_by row (row_named rows name) path d (bytes_eq name row.name) tell.0 (row_tells rows tell.1 name path d)

members_tell : (rows : List Row) → RowsTell rows → (path : List ℕ) (ms : Members) → AreFaults (members_faults rows path ms)
unfolding members_faults
members_tell rows tell path no_members = tt
members_tell rows tell path (member n d ms) = both_are (row_faults (row_named rows n) (below path n) d) (members_faults rows path ms) (row_tells rows tell n (below path n) d) (members_tell rows tell path ms)

absent_tell : (path : List ℕ) (rows : List Row) → AreFaults (map (λ (row : Row). faults.WrongShape (below path row.name)) rows)
absent_tell path [] = tt
absent_tell path (row ∷ rows) = (tt, absent_tell path rows)

object_tells : (rows : List Row) → RowsTell rows → (path : List ℕ) (ms : Members) → AreFaults (object_faults rows path ms)
unfolding object_faults
object_tells rows tell path ms = both_are (members_faults rows path ms) (missing_faults rows path ms) (members_tell rows tell path ms)
    (absent_tell path (filter (λ (row : Row). row.is_required && not (is_some (member_of row.name ms))) rows))

table_tells : (rows : List Row) → RowsTell rows → Tells (table_faults rows)
unfolding Tells table_faults
table_tells rows tell path (object ms) = object_tells rows tell path ms
table_tells rows tell path null = (tt, tt)
table_tells rows tell path (boolean b) = (tt, tt)
table_tells rows tell path (number n) = (tt, tt)
table_tells rows tell path (string s) = (tt, tt)
table_tells rows tell path (array ds) = (tt, tt)

some_number_tells : Tells (optional_faults number_faults)
some_number_tells = optional_tells number_faults number_tells

some_list_tells : (shape : Shape) → Tells shape → Tells (optional_faults (list_faults shape))
some_list_tells shape tells = optional_tells (list_faults shape) (list_tells shape tells)

arg_tells : Tells (table_faults arg_rows)
arg_tells = table_tells arg_rows (number_tells, (word_tells _, (number_tells, (some_number_tells, tt))))

entry_tells : Tells (table_faults entry_rows)
entry_tells = table_tells entry_rows (action_tells, (some_list_tells (table_faults arg_rows) arg_tells, (some_number_tells, (list_tells (word_faults is_text) (word_tells is_text), tt))))

filter_tells : Tells (table_faults seccomp_rows)
filter_tells =
    table_tells seccomp_rows (
      some_list_tells _ (word_tells _),
      (action_tells, (some_number_tells, (some_list_tells _ (word_tells _), (refused_tells, (refused_tells, (some_list_tells (table_faults entry_rows) entry_tells, tt)))))),
    )

set_tells : Tells (optional_faults (list_faults (word_faults is_cap_name)))
set_tells = some_list_tells (word_faults is_cap_name) (word_tells is_cap_name)

caps_tells : Tells caps_faults
unfolding Tells caps_faults
caps_tells path (object ms) = object_tells caps_rows (set_tells, (set_tells, (set_tells, (set_tells, (set_tells, tt))))) path ms
caps_tells path null = (tt, tt)
caps_tells path (boolean b) = (tt, tt)
caps_tells path (number n) = (tt, tt)
caps_tells path (string s) = (tt, tt)
caps_tells path (array ds) = (tt, tt)

document_tells : (d : Data) → AreFaults (document_faults d)
unfolding document_faults
document_tells (object ms) = object_tells document_rows (caps_tells, (optional_tells (table_faults seccomp_rows) filter_tells, tt)) [] ms
document_tells null = (tt, tt)
document_tells (boolean b) = (tt, tt)
document_tells (number n) = (tt, tt)
document_tells (string s) = (tt, tt)
document_tells (array ds) = (tt, tt)

-- ---- filters

abbrev AreChecks : List Check → Type 0
AreChecks [] = Unit {0}
AreChecks (c ∷ cs) = IsFilterFault c.0 × AreChecks cs

both_checks : (a b : List Check) → AreChecks a → AreChecks b → AreChecks (a ++ b)
both_checks [] b h k = k
both_checks (c ∷ a) b h k = (h.0, both_checks a b h.1 k)

entries_check : (es : List EntryPartsValue) → AreChecks (flat_map entry_checks es)
entries_check [] = tt
entries_check (e ∷ es) = both_checks (entry_checks e) (flat_map entry_checks es) (tt, (tt, (tt, (tt, (tt, (tt, tt)))))) (entries_check es)

names_check : (earlier : List EntryValue) (action : Action) (names : List (List ℕ)) → AreChecks (map (name_check earlier action) names)
names_check earlier action [] = tt
names_check earlier action (name ∷ names) = (tt, names_check earlier action names)

all_names_check : (earlier es : List EntryValue) → AreChecks (all_name_checks earlier es)
unfolding all_name_checks
all_names_check earlier [] = tt
all_names_check earlier (e ∷ es) = both_checks (name_checks earlier e) (all_name_checks (earlier ++ e ∷ []) es) (names_check earlier e.action e.names) (all_names_check (earlier ++ e ∷ []) es)

first_is : (cs : List Check) (fault : FilterFault) → AreChecks cs → first_fault cs ≡ Some fault → IsFilterFault fault
first_is [] fault h e = absurd (cc)
first_is ((other, true) ∷ cs) fault h e = let same : other ≡ fault = cc in subst IsFilterFault same h.0
first_is ((other, false) ∷ cs) fault h e = first_is cs fault h.1 e

filter_fault : (p : FilterPartsValue) (fault : FilterFault) → fault_of p ≡ Some fault → IsFilterFault fault
unfolding fault_of
filter_fault p fault e =
    let head : List Check = ((filter_faults.TooMany, has_too_many p) ∷ []) ++ errno_checks p.default p.default_errno in
    let names : List Check = all_name_checks [] (map entry_of p.entries) in
    first_is ((head ++ flat_map entry_checks p.entries) ++ names) fault (both_checks (head ++ flat_map entry_checks p.entries) names (both_checks head (flat_map entry_checks p.entries) (tt, (tt, (tt, tt))) (entries_check p.entries)) (all_names_check [] (map entry_of p.entries))) e

-- ---- the reading

abbrev IfFault : {X : Type 0} → Result X DocFault → Type 0
IfFault (Ok x) = Unit {0}
IfFault (Err fault) = IsFault fault

after : {X Y : Type 0} (r : Result X DocFault) (next : X → Result Y DocFault) → IfFault r → ((x : X) → IfFault (next x)) → IfFault (r >>= next)
after (Ok x) next h k = k x
after (Err fault) next h k = h

walk_told : {X : Type 0} (found : List DocFault) (x : X) → AreFaults found → IfFault (unless_faulty found x)
walk_told [] x h = tt
walk_told (fault ∷ found) x h = h.0

caps_told : (r : Result CapState CapFault) → IfFault (caps_or_fault r)
caps_told (Ok caps) = tt
caps_told (Err fault) = tt

unlawful_told : (fault : Option FilterFault) (f : FilterValue) → ((own : FilterFault) → fault ≡ Some own → IsFilterFault own) → IfFault (unless_unlawful fault f)
unlawful_told None f h = tt
unlawful_told (Some fault) f h = h fault refl

filter_told : (p : Option FilterPartsValue) → IfFault (filter_or_fault p)
filter_told None = tt
filter_told (Some p) = unlawful_told (fault_of p) (filter_of p) (filter_fault p)

short_told : (b : Bool) (p : Profile) → IfFault {X = Profile} (cond b (Err faults.TextTooLong) (Ok p))
short_told true p = tt
short_told false p = tt

profile_told : (d : Data) → IfFault (profile_of d)
unfolding profile_of
profile_told d =
    after (unless_faulty (document_faults d) (document_parts d)) _ (walk_told (document_faults d) (document_parts d) (document_tells d)) (λ parts.
    after (caps_or_fault (state_of parts.sets)) _ (caps_told (state_of parts.sets)) (λ caps.
    after (filter_or_fault parts.filter) _ (filter_told parts.filter) (λ own. tt)))

json_told : (o : Option Data) → IfFault (profile_of_json o)
json_told None = tt
json_told (Some d) = profile_told d

long_told : (b : Bool) (r : Result Profile DocFault) → IfFault r → IfFault (cond b (Err faults.TooLong) r)
long_told true r h = tt
long_told false r h = h

stored_told : (bytes : List ℕ) → IfFault (stored_reading_of bytes)
unfolding stored_reading_of
stored_told bytes = long_told (nat_lt most_bytes (length bytes)) (profile_of_json (json_of bytes)) (json_told (json_of bytes))

reading_told : (bytes : List ℕ) → IfFault (reading_of bytes)
unfolding reading_of
reading_told bytes = after (stored_reading_of bytes) if_short (stored_told bytes) (λ p. short_told (nat_lt most_bytes (length (text_of p))) p)

pub never_memory : (bytes : List ℕ) → reading_of bytes ≡ Err (faults.NoMemory witness) → ⊥
never_memory bytes e = subst IfFault e (reading_told bytes)

pub never_memory_of_a_filter : (bytes : List ℕ) → reading_of bytes ≡ Err (faults.Filter (filter_faults.NoMemory witness)) → ⊥
never_memory_of_a_filter bytes e = subst IfFault e (reading_told bytes)
