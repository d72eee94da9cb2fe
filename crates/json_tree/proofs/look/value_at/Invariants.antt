use Rattle.std.proofs.Common.{◌≡◌, drop}
use Rattle.serde_json.specs.Find.{get_member}
use Rattle.json_tree.specs.View.{members_view}
use Rattle.json_tree.proofs.look.value_at.Given as goal

abbrev pub invariant-loop-key : goal.invariant-loop-key
invariant-loop-key l = get_member l.name (members_view l.fn.members) ≡ get_member l.name (members_view (drop l.key-index l.members))
