use Rattle.std.proofs.Common.{◌≡◌, false, length, take}
use Rattle.std.specs.List.{list_any}
use Rattle.implication.specs.Implication.{entry_implies}
use Rattle.widening.specs.Groups.{entries_at}
use Rattle.widening.specs.Memo.{IsRow}
use Rattle.widening.proofs.memo.implies_any.Given as goal

abbrev pub invariant-loop-place : goal.invariant-loop-place
invariant-loop-place l = record {
  row : IsRow l.entry l.others l.row;
  full : length l.row ≡ length l.others;
  none : list_any (entry_implies l.entry) (entries_at l.others (take l.place-index l.places)) ≡ false;
}
