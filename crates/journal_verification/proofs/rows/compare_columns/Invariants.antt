use Rattle.std.proofs.Common.{◌≡◌}
use Rattle.journal_verification.specs.Differing.{columns_cmp}
use Rattle.journal_verification.proofs.Columns.{rest_cmp}
use Rattle.journal_verification.proofs.rows.compare_columns.Given as goal

abbrev pub invariant-loop-at : goal.invariant-loop-at
invariant-loop-at l = columns_cmp l.width l.left l.right ≡ rest_cmp l.width l.at l.left l.right
