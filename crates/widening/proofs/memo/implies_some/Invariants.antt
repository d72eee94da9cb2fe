use Rattle.std.proofs.Common.{◌≡◌, false, take}
use Rattle.std.specs.List.{list_any}
use Rattle.implication.specs.Implication.{entry_implies}
use Rattle.widening.specs.Groups.{entries_at}
use Rattle.widening.proofs.memo.implies_some.Given as goal

abbrev pub invariant-loop-place : goal.invariant-loop-place
invariant-loop-place l = list_any (entry_implies l.entry) (entries_at l.others (take l.place-index l.places)) ≡ false
