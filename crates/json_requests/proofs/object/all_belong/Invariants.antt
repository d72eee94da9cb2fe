use Rattle.std.proofs.Common.{◌≡◌, drop, map}
use Rattle.json_tree.specs.View.{members_view}
use Rattle.json_requests.specs.Objects.{all_belong}
use Rattle.json_requests.proofs.object.all_belong.Given as goal

abbrev pub invariant-loop-name : goal.invariant-loop-name
invariant-loop-name l = all_belong (map (λ known. known.now) l.names) (members_view l.fn.members) ≡ all_belong (map (λ known. known.now) l.names) (members_view (drop l.name-index l.members))
