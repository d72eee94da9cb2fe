-- The members of an object while they are read.
use Rattle.std.specs.Prelude.{◌≡◌, ℕ, List, ⊤}
use Rattle.std.specs.Ordering.{nat_cmp}
use Rattle.std.specs.declared.cmp.Ordering.TheVariants.{Less}
use Rattle.std.specs.Cmp.Lexicographic.{slice_cmp}
use Rattle.serde_json.specs.Data.{Members, no_members, member}
use Rattle.json_tree.specs.declared.members.Gathered.{Gathered}
use Rattle.json_tree.specs.declared.members.Gathered.TheVariants.{Few, Many}
use Rattle.json_tree.specs.View.{members_view}

abbrev pub gathered_view : Gathered → Members
gathered_view (Few v) = members_view v.items
gathered_view (Many m) = members_view m.entries

-- the name is below the first of the members
abbrev pub IsBelow : List ℕ → Members → Type 0
IsBelow k no_members = ⊤
IsBelow k (member l d ms) = slice_cmp nat_cmp k l ≡ Less

-- each name is below the next
abbrev pub IsRising : Members → Type 0
IsRising no_members = ⊤
IsRising (member k d ms) = IsBelow k ms × IsRising ms

abbrev pub IsOrdered : Gathered → Type 0
IsOrdered (Few v) = IsRising (members_view v.items)
IsOrdered (Many m) = ⊤
