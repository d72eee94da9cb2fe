use Rattle.std.proofs.Common.{◌≡◌, ◌-◌, ◌≤◌, length, take}
use Rattle.json_tree.proofs.room.grow.Given as goal

abbrev pub invariant-loop-bytes : goal.invariant-loop-bytes
invariant-loop-bytes l = (l.end ≤ length l.bytes.items) × (take l.end l.bytes.items ≡ take l.end l.fn.bytes.items)

abbrev pub decreases-loop-bytes : goal.decreases-loop-bytes
decreases-loop-bytes l = l.more - (length l.bytes.items - l.end)
