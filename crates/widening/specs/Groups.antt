-- Entries grouped by the names of their calls, each told by its place in the filter.
use Rattle.std.specs.Prelude.{◌≡◌, ℕ, ◌+◌, ◌<◌, List, [], ◌∷◌, Bool, false, ◌&&◌, ◌||◌}
use Rattle.std.specs.Prelude.{if◌then◌else◌}
use Rattle.std.specs.Prelude.{Option, Some, None, bytes_eq, take, drop, flat_map, All, get_or, length}
use Rattle.std.specs.Borrow.{Bor}
use Rattle.std.specs.List.{list_any}
use Rattle.smallvec.specs.SmallVec.{SmallVec}
use Rattle.seccomp_doc.specs.Filter.{EntryValue}
use Rattle.seccomp_doc.specs.Meaning.{has_name}
use Rattle.widening.specs.Texts.{texts_in}

-- the places of the entries that pass, where the first stands at this one
abbrev pub places_from : ℕ → (EntryValue → Bool) → List EntryValue → List ℕ
places_from first test [] = []
places_from first test (e ∷ es) =
    if test e then first ∷ places_from (first + 1) test es else places_from (first + 1) test es

-- the places of the entries that have a name
abbrev pub places_of : List ℕ → List EntryValue → List ℕ
places_of name entries = places_from 0 (has_name name) entries

-- the entries at these places
abbrev pub entries_at : List EntryValue → List ℕ → List EntryValue
entries_at entries places = flat_map (λ place. take 1 (drop place entries)) places

-- entries stand at all of these places
abbrev pub AreWithin : List EntryValue → List ℕ → Type 0
AreWithin entries places = All (λ place. place < length entries) places

-- the name at a place
abbrev pub name_at : List (Bor (List ℕ)) → ℕ → List ℕ
name_at names at = get_or (texts_in names) at []

-- the place of a name among the names; none, where the name isn't there
abbrev pub IsPlaceAmong : List (Bor (List ℕ)) → List ℕ → Option ℕ → Type 0
IsPlaceAmong names name (Some at) = (at < length names) × (name ≡ name_at names at)
IsPlaceAmong names name None =
    (at : ℕ) → at < length names → bytes_eq (name_at names at) name ≡ false

-- the places in the group at a place
abbrev pub group_at : List (SmallVec ℕ) → ℕ → List ℕ
group_at groups at = (get_or groups at (record { items = []; capacity = 1 })).items

-- the two lists have the same elements, in whatever order and however often
abbrev pub HasSameElements : {X : Type 0} → List X → List X → Type 0
HasSameElements xs ys = (test : _ → Bool) → list_any test xs ≡ list_any test ys

-- each name has a group: the places of the entries that have it
abbrev pub IsGrouping : List EntryValue → List (Bor (List ℕ)) → List (SmallVec ℕ) → Type 0
IsGrouping entries names groups =
    (length groups ≡ length names)
    × ((at : ℕ) → at < length names →
    HasSameElements (group_at groups at) (places_of (name_at names at) entries))

-- a place is added to a list of them
abbrev pub AddsPlace : List ℕ → List ℕ → ℕ → Type 0
AddsPlace old new place = (test : ℕ → Bool) → list_any test new ≡ (list_any test old || test place)

-- the place is added to the group of each name that is among those added
abbrev pub AddsUnder :
    List (Bor (List ℕ)) → List (SmallVec ℕ) → List (SmallVec ℕ) → List (List ℕ) → ℕ → Type 0
AddsUnder names old new added place =
    (length new ≡ length old)
    × ((at : ℕ) (test : ℕ → Bool) → at < length names →
    list_any test (group_at new at)
    ≡ (list_any test (group_at old at)
    || (list_any (bytes_eq (name_at names at)) added && test place)))
