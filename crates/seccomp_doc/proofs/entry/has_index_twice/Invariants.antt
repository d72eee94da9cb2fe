use Rattle.std.proofs.Common.{◌≡◌, map, drop}
use Rattle.seccomp_doc.specs.Lawful.{has_repeat}
use Rattle.seccomp_doc.proofs.entry.has_index_twice.Given as goal

abbrev pub invariant-loop-i : goal.invariant-loop-i
invariant-loop-i l = has_repeat (map (λ a. a.index) l.args) ≡ has_repeat (map (λ a. a.index) (drop l.i l.args))
