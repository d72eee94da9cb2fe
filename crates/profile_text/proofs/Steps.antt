-- Steps of a loop that reads the members of an object, or the items of a list, one after another.
use Rattle.std.proofs.Common.{◌≡◌, ◌∙◌, ℕ, ◌+◌, ◌<◌, List, [], ◌∷◌, ◌++◌, length, get_or, drop, Result, Ok, Err, refl, sym, ap, append_assoc, append-nil, length-append}
use Rattle.std.proofs.lemmas.List.{drop_more, nil_from_length}
use Rattle.std.specs.Borrow.{Bor}
use Rattle.std.specs.Prelude.{decimal}
use Rattle.serde_json.specs.Data.{Data}
use Rattle.json_tree.specs.View.{view, items_view, members_view}
use Rattle.json_tree.specs.declared.tree.Tree.{Tree}
use Rattle.profile_text.specs.declared.fault.DocFault.{DocFault}
use Rattle.profile_text.specs.FilterParts.{items_as}
use Rattle.profile_text.specs.Reading.{Gives, unless_faulty}
use Rattle.profile_text.specs.Shape.{Shape, Row, below, items_faults, row_faults, row_named, members_faults, members_over}
use Rattle.profile_text.proofs.GivesFacts.{gives_first, ok_parts}
use Rattle.profile_text.proofs.WalkFacts.{members_more, members_end}

-- the item at a place, and those after it
pub at_place : {X : Type 0} (vs : List X) (i : ℕ) (v : X) → i < length vs → v ≡ get_or vs i v → drop i vs ≡ v ∷ drop (i + 1) vs
at_place vs i v within here = drop_more vs i v within ∙ ap (λ x. x ∷ drop (i + 1) vs) (sym here)

-- ---- items

-- what is still to be read: the faults of the items that are left, and those done with them
abbrev pub left : {X : Type 0} → Shape → (Data → X) → List ℕ → List Tree → List X → Result (List X) DocFault
left shape read path values done =
    unless_faulty (items_faults shape path (length done) (items_view values)) (done ++ items_as read (items_view values))

-- the fault of an item is the fault of the list
pub item_refused : {X : Type 0} (shape : Shape) (read : Data → X) (path : List ℕ) (v : Tree) (values rest : List Tree) (done : List X) (whole : Result (List X) DocFault) (fault : DocFault)
    → values ≡ v ∷ rest → whole ≡ left shape read path values done
    → Gives {X = X} (Err fault) (unless_faulty (shape (below path (decimal (length done))) (view v)) (read (view v))) → Gives {X = List X} (Err fault) whole
unfolding items_faults
item_refused shape read path v values rest done whole fault here is told =
    let first = shape (below path (decimal (length done))) (view v) in
    let others = items_faults shape path (length done + 1) (items_view rest) in
    rw (is, here) (gives_first fault first others (read (view v)) (done ++ items_as read (items_view (v ∷ rest))) told)

-- an item is read, and the others are left
pub item_read : {X : Type 0} (shape : Shape) (read : Data → X) (path : List ℕ) (v : Tree) (values rest : List Tree) (done : List X) (whole : Result (List X) DocFault) (x : X)
    → values ≡ v ∷ rest → whole ≡ left shape read path values done
    → unless_faulty (shape (below path (decimal (length done))) (view v)) (read (view v)) ≡ Ok x → whole ≡ left shape read path rest (done ++ x ∷ [])
unfolding items_faults items_as
item_read shape read path v values rest done whole x here is told =
    let parts = ok_parts (shape (below path (decimal (length done))) (view v)) (read (view v)) x told in
    let others = items_as read (items_view rest) in
    is ∙ rw (here, parts.0, parts.1, length-append done (x ∷ []), append_assoc done (x ∷ []) others) refl

-- all items are read
pub items_read : {X : Type 0} (shape : Shape) (read : Data → X) (path : List ℕ) (values : List Tree) (done : List X) (whole : Result (List X) DocFault)
    → length values ≡ 0 → whole ≡ left shape read path values done → whole ≡ Ok done
unfolding items_faults items_as
items_read shape read path values done whole none is = is ∙ rw (nil_from_length values none, append-nil done) refl

-- ---- members

-- what is still to be read: the faults of the members that are left, and what they give beside what was found
abbrev pub members_left : {X : Type 0} → List Row → List ℕ → (List ℕ → Data → X → X) → X → List (Bor (List ℕ) × Tree) → Result X DocFault
members_left rows path with found ms = unless_faulty (members_faults rows path (members_view ms)) (members_over with found (members_view ms))

-- the fault of a member is the fault of them all
pub member_refused : {X Y : Type 0} (rows : List Row) (path : List ℕ) (name : Bor (List ℕ)) (v : Tree) (rest : List (Bor (List ℕ) × Tree)) (x : X) (y : Y) (whole : Result Y DocFault) (fault : DocFault)
    → whole ≡ unless_faulty (members_faults rows path (members_view ((name, v) ∷ rest))) y
    → Gives {X = X} (Err fault) (unless_faulty (row_faults (row_named rows name.now) (below path name.now) (view v)) x) → Gives {X = Y} (Err fault) whole
member_refused rows path name v rest x y whole fault is told =
    let first = row_faults (row_named rows name.now) (below path name.now) (view v) in
    rw (is, members_more rows path name v rest) (gives_first fault first (members_faults rows path (members_view rest)) x y told)

-- a member is read, and the others are left
pub member_read : {X Y : Type 0} (rows : List Row) (path : List ℕ) (name : Bor (List ℕ)) (v : Tree) (rest : List (Bor (List ℕ) × Tree)) (x z : X) (y : Y) (whole : Result Y DocFault)
    → whole ≡ unless_faulty (members_faults rows path (members_view ((name, v) ∷ rest))) y
    → unless_faulty (row_faults (row_named rows name.now) (below path name.now) (view v)) x ≡ Ok z
    → (whole ≡ unless_faulty (members_faults rows path (members_view rest)) y) × (x ≡ z)
member_read rows path name v rest x z y whole is told =
    let parts = ok_parts (row_faults (row_named rows name.now) (below path name.now) (view v)) x z told in
    (is ∙ rw (members_more rows path name v rest, parts.0) refl, parts.1)

-- the same of the member at a place; it is there, so nothing stands in its place
pub refused_at_place : {X : Type 0} (rows : List Row) (path : List ℕ) (with_one : List ℕ → Data → X → X) (ms : List (Bor (List ℕ) × Tree)) (i : ℕ) (d : Bor (List ℕ) × Tree) (found x : X) (whole : Result X DocFault) (fault : DocFault) → i < length ms
    → whole ≡ members_left rows path with_one found (drop i ms)
    → Gives {X = X} (Err fault) (unless_faulty (row_faults (row_named rows (get_or ms i d).0.now) (below path (get_or ms i d).0.now) (view (get_or ms i d).1)) x) → Gives {X = X} (Err fault) whole
refused_at_place rows path with_one ms i d found x whole fault within is told =
    let m = get_or ms i d in
    member_refused rows path m.0 m.1 (drop (i + 1) ms) x _ whole fault (is ∙ ap (members_left rows path with_one found) (drop_more ms i d within)) told

pub read_at_place : {X : Type 0} (rows : List Row) (path : List ℕ) (with_one : List ℕ → Data → X → X) (ms : List (Bor (List ℕ) × Tree)) (i : ℕ) (d : Bor (List ℕ) × Tree) (found z : X) (whole : Result X DocFault) → i < length ms
    → whole ≡ members_left rows path with_one found (drop i ms)
    → unless_faulty (row_faults (row_named rows (get_or ms i d).0.now) (below path (get_or ms i d).0.now) (view (get_or ms i d).1)) (with_one (get_or ms i d).0.now (view (get_or ms i d).1) found) ≡ Ok z
    → whole ≡ members_left rows path with_one z (drop (i + 1) ms)
read_at_place rows path with_one ms i d found z whole within is told =
    let m = get_or ms i d in
    let more = member_read rows path m.0 m.1 (drop (i + 1) ms) (with_one m.0.now (view m.1) found) z _ whole (is ∙ ap (members_left rows path with_one found) (drop_more ms i d within)) told in
    more.0 ∙ ap (λ f. members_left rows path with_one f (drop (i + 1) ms)) more.1

-- all members are read
pub members_read : {Y : Type 0} (rows : List Row) (path : List ℕ) (y : Y) (whole : Result Y DocFault)
    → whole ≡ unless_faulty (members_faults rows path (members_view [])) y → whole ≡ Ok y
members_read rows path y whole is = is ∙ rw (members_end rows path) refl
