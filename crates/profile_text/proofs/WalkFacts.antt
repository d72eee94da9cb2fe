-- Steps of the walk.
use Rattle.std.proofs.Common.{◌≡◌, ◌∙◌, ℕ, ◌+◌, ◌<◌, ◌≤◌, List, [], ◌∷◌, ◌++◌, length, map, get_or, drop, Some, option_map, Ok, Err, refl, ap}
use Rattle.std.proofs.lemmas.List.{drop_more, drop_all, append-nil}
use Rattle.std.specs.Borrow.{Bor}
use Rattle.std.specs.Prelude.{decimal}
use Rattle.std.specs.Int.RustNames.{bit_or}
use Rattle.serde_json.specs.Data.{Data, Members}
use Rattle.serde_json.specs.View.{items_of}
use Rattle.json_tree.specs.View.{view, items_view, members_view}
use Rattle.json_tree.specs.declared.tree.Tree.{Tree}
use Rattle.profile_text.specs.declared.fault.DocFault.{DocFault}
use Rattle.profile_text.specs.declared.sets.CapSet.{CapSet}
use Rattle.profile_text.specs.declared.sets.Sets.{Sets}
use Rattle.profile_text.specs.Document.{caps_row, caps_rows, set_faults}
use Rattle.profile_text.specs.Reading.{Gives, unless_faulty}
use Rattle.profile_text.specs.Sets.{cap_of, caps_of, set_named, set_of, sets_in, sets_with, with_set}
use Rattle.profile_text.specs.Shape.{Shape, Row, below, items_faults, row_faults, row_named, members_faults, object_faults}
use Rattle.profile_text.proofs.GivesFacts.{gives_first, ok_parts}
use Rattle.profile_text.proofs.Picks.{row_is}

-- the item at a place, and then the others
pub items_more : (shape : Shape) (path : List ℕ) (values : List Tree) (i : ℕ) (v : Tree) → i < length values → v ≡ get_or values i v
    → items_faults shape path i (items_view (drop i values)) ≡ shape (below path (decimal i)) (view v) ++ items_faults shape path (i + 1) (items_view (drop (i + 1) values))
unfolding items_faults
items_more shape path values i v lt at = rw (drop_more values i v lt, ← at) refl

pub items_end : (shape : Shape) (path : List ℕ) (values : List Tree) (i : ℕ) → length values ≤ i → items_faults shape path i (items_view (drop i values)) ≡ []
unfolding items_faults
items_end shape path values i ge = rw (drop_all i values ge) refl

-- the capabilities of a list, whatever its values are seen as
pub caps_more : {X : Type 0} (seen : X → Data) (values : List X) (i : ℕ) (v : X) → i < length values → v ≡ get_or values i v
    → caps_of (items_of (map seen (drop i values))) ≡ bit_or (cap_of (seen v)) (caps_of (items_of (map seen (drop (i + 1) values))))
unfolding caps_of
caps_more seen values i v lt at = rw (drop_more values i v lt, ← at) refl

pub caps_end : {X : Type 0} (seen : X → Data) (values : List X) (i : ℕ) → length values ≤ i → caps_of (items_of (map seen (drop i values))) ≡ 0
unfolding caps_of
caps_end seen values i ge = rw (drop_all i values ge) refl

-- a member, and then the others
pub members_more : (rows : List Row) (path : List ℕ) (name : Bor (List ℕ)) (v : Tree) (rest : List (Bor (List ℕ) × Tree)) →
    members_faults rows path (members_view ((name, v) ∷ rest)) ≡ row_faults (row_named rows name.now) (below path name.now) (view v) ++ members_faults rows path (members_view rest)
unfolding members_faults
members_more rows path name v rest = refl

pub members_end : (rows : List Row) (path : List ℕ) → members_faults rows path (members_view []) ≡ []
unfolding members_faults
members_end rows path = refl

-- a member of `capabilities`, and then the others
pub caps_members_more : (path : List ℕ) (name : Bor (List ℕ)) (v : Tree) (rest : List (Bor (List ℕ) × Tree)) →
    members_faults caps_rows path (members_view ((name, v) ∷ rest)) ≡ row_faults (option_map caps_row (set_named name.now)) (below path name.now) (view v) ++ members_faults caps_rows path (members_view rest)
caps_members_more path name v rest = members_more caps_rows path name v rest ∙ ap (λ row. row_faults row (below path name.now) (view v) ++ members_faults caps_rows path (members_view rest)) (row_is name.now)

-- the set of a member of `capabilities`
pub sets_with_ok : (path : List ℕ) (set : CapSet) (d : Data) (sets : Sets) (caps : ℕ) → unless_faulty (set_faults path d) (set_of d) ≡ Ok caps
    → unless_faulty (row_faults (option_map caps_row (Some set)) path d) (sets_with (Some set) d sets) ≡ Ok (with_set set caps sets)
sets_with_ok path set d sets caps told = let parts = ok_parts (set_faults path d) (set_of d) caps told in rw (parts.0, parts.1) refl

-- no member of `capabilities` is required
pub caps_object : (path : List ℕ) (ms : Members) → object_faults caps_rows path ms ≡ members_faults caps_rows path ms
unfolding object_faults
caps_object path ms = append-nil (members_faults caps_rows path ms)

-- the fault of a member is the fault of the object
pub caps_err : (path : List ℕ) (ms : Members) (a b : List DocFault) (x : Sets) (fault : DocFault) → members_faults caps_rows path ms ≡ a ++ b
    → Gives {X = Sets} (Err fault) (unless_faulty a x) → Gives {X = Sets} (Err fault) (unless_faulty (object_faults caps_rows path ms) (sets_in ms))
caps_err path ms a b x fault more told = rw (caps_object path ms, more) (gives_first fault a b x (sets_in ms) told)
