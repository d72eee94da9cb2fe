use Rattle.std.proofs.Common.{◌≡◌, ◌+◌, ◌*◌, ◌-◌, ◌≤◌, ◌++◌, drop, take, length}
use Rattle.json.specs.Print.{escape}
use Rattle.json_tree.proofs.Escapes.{Masks}
use Rattle.json_tree.proofs.escape.write_block.Given as goal

abbrev pub invariant-loop-found : goal.invariant-loop-found
invariant-loop-found l = Masks l.text l.from l.stop l.found × (take l.used l.room ++ escape (drop l.from l.text) ≡ take l.at l.fn.room ++ escape (drop l.start l.text)) × (l.used + 6 * (l.stop - l.from) ≤ l.at + 96) × (l.at + 112 ≤ length l.room)

abbrev pub decreases-loop-found : goal.decreases-loop-found
decreases-loop-found l = l.stop - l.from
