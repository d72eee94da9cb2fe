use Rattle.std.proofs.Common.{◌≡◌, drop, option_map}
use Rattle.std.specs.Int.RustNames.{bit_or}
use Rattle.json_tree.specs.View.{items_view}
use Rattle.json_requests.specs.Members.{roles_of}
use Rattle.json_requests.proofs.member.roles_in.Given as goal

abbrev pub invariant-loop-value : goal.invariant-loop-value
invariant-loop-value l = roles_of (items_view l.fn.values) ≡ option_map (bit_or l.roles) (roles_of (items_view (drop l.value-index l.values)))
