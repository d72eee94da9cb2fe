use Rattle.std.proofs.Common.{subst}
use Rattle.std.specs.Prelude.{option_copied}
use Rattle.journal_verification.specs.Differing.{IsEarlier}
use Rattle.journal_verification.proofs.side_by_side.row_differs.Goals as goal

pub returns-clause-differs : goal.returns-clause-differs
returns-clause-differs c =
    (c.in-Some.row.now, subst (λ w. IsEarlier w (option_copied c.args.left) (option_copied c.args.right) c.in-Some.row.now) c.key_width.ensures c.in-Some.ensures, c.in_ok-difference.ensures.named)
