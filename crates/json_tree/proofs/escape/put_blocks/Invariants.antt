use Rattle.std.proofs.Common.{◌≡◌, ◌-◌, ◌≤◌, ◌++◌, length, take, drop}
use Rattle.json.specs.Print.{escape}
use Rattle.json_tree.proofs.escape.put_blocks.Given as goal

abbrev pub invariant-loop-done : goal.invariant-loop-done
invariant-loop-done l = (l.done ≤ length l.text) × (l.at ≤ length l.bytes.items) × (take l.at l.bytes.items ++ escape (drop l.done l.text) ≡ take l.start l.fn.bytes.items ++ escape l.text)

abbrev pub decreases-loop-done : goal.decreases-loop-done
decreases-loop-done l = length l.text - l.done

abbrev pub invariant-loop-done-2 : goal.invariant-loop-done-2
invariant-loop-done-2 l = (l.done ≤ length l.text) × (l.at ≤ length l.bytes.items) × (take l.at l.bytes.items ++ escape (drop l.done l.text) ≡ take l.start l.fn.bytes.items ++ escape l.text)

abbrev pub decreases-loop-done-2 : goal.decreases-loop-done-2
decreases-loop-done-2 l = length l.text - l.done
