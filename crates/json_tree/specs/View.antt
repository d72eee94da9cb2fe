-- The data that a tree stands for.
use Rattle.std.specs.Prelude.{ℕ, List, [], ◌∷◌, map}
use Rattle.std.specs.Borrow.{Bor}
use Rattle.serde_json.specs.Data.{Num, unsigned, negative, float}
use Rattle.serde_json.specs.Data.{Data, null, boolean, number, string, array, object}
use Rattle.serde_json.specs.Data.{Items, Members, no_members, member}
use Rattle.serde_json.specs.View.{items_of}
use Rattle.json_tree.specs.declared.number.Number.{Number}
use Rattle.json_tree.specs.declared.number.Number.TheVariants.{Unsigned, Negative, Float}
use Rattle.json_tree.specs.declared.tree.Tree.{Tree, fold-Tree}
use Rattle.json_tree.specs.declared.tree.Tree.TheOpen.{Tree-F}

abbrev pub number_view : Number → Num
number_view (Unsigned n) = unsigned n
number_view (Negative z) = negative z
number_view (Float x) = float x

abbrev pub members_of : List (Bor (List ℕ) × Data) → Members
members_of [] = no_members
members_of (m ∷ ms) = member m.0.now m.1 (members_of ms)

-- one level, with each value inside already seen as its data
abbrev pub view_step : Tree-F Data → Data
view_step Tree-F.Null = null
view_step (Tree-F.Bool b) = boolean b
view_step (Tree-F.Number n) = number (number_view n)
view_step (Tree-F.String s) = string s.now
view_step (Tree-F.Array v) = array (items_of v.now)
view_step (Tree-F.Object v) = object (members_of v.now)

abbrev pub view : Tree → Data
view = fold-Tree Data view_step

abbrev pub items_view : List Tree → Items
items_view trees = items_of (map view trees)

abbrev pub members_view : List (Bor (List ℕ) × Tree) → Members
members_view ms = members_of (map (λ m. (m.0, view m.1)) ms)
