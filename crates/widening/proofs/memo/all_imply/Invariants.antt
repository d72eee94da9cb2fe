use Rattle.std.proofs.Common.{◌≡◌, Some, take, true}
use Rattle.widening.specs.Groups.{entries_at}
use Rattle.widening.specs.Memo.{AreRows}
use Rattle.widening.specs.Ranks.{do_imply}
use Rattle.widening.proofs.memo.all_imply.Given as goal

abbrev pub invariant-loop-place : goal.invariant-loop-place
invariant-loop-place l = record {
  rows : AreRows l.entries l.others.entries.now l.rows;
  passed : do_imply (Some l.fn.span) (entries_at l.entries (take l.place-index l.places)) (entries_at l.others.entries.now l.others.places.now) ≡ true;
}
