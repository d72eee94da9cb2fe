use Rattle.std.proofs.Common.{◌≡◌, ◌-◌}
use Rattle.cap_sets.specs.Capability.{names_left}
use Rattle.cap_sets.proofs.names.NamesIterator.next.Given as goal

abbrev pub invariant-loop-self : goal.invariant-loop-self
invariant-loop-self l = l.fn.self ≡ names_left l.self-inside.next l.self-inside.caps

abbrev pub decreases-loop-self : goal.decreases-loop-self
decreases-loop-self l = 41 - l.self-inside.next
