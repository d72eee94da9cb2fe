use Rattle.std.proofs.Common.{◌≡◌, take}
use Rattle.journal_verification.proofs.rows.is_same_row.Given as goal

abbrev pub invariant-loop-at : goal.invariant-loop-at
invariant-loop-at l = take l.at l.left ≡ take l.at l.right
