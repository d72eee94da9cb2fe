use Rattle.std.proofs.Common.{◌≡◌, length}
use Rattle.json_tree.specs.View.{members_view}
use Rattle.json_tree.proofs.Views.{members_before}
use Rattle.json_tree.proofs.members.map_of.Given as goal

abbrev pub invariant-loop-name : goal.invariant-loop-name
invariant-loop-name l = members_before l.few.items (members_view l.many.entries) ≡ members_view l.fn.few.items

abbrev pub decreases-loop-name : goal.decreases-loop-name
decreases-loop-name l = length l.few.items
