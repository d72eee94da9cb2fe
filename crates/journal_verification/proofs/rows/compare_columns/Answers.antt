use Rattle.std.proofs.Common.{sym, ◌∙◌}
use Rattle.journal_verification.specs.Differing.{columns_cmp}
use Rattle.journal_verification.proofs.Columns.{decided, goes_on, left_there}
use Rattle.journal_verification.proofs.rows.compare_columns.Goals as goal

pub returns-in_default : goal.returns-in_default
returns-in_default c =
    decided c.args.width c.loop-at.at c.args.left.now c.args.right.now (columns_cmp c.args.width c.args.left.now c.args.right.now) c.loop-at.invariant c.loop-at-test.true _ _ c.in-Ok-Ok.ensures.ok c.in-Ok-Ok.ensures'.ok
    c.compare.result c.compare.ensures c.in_default.not-Equal

pub returns-in-Ok-Err : goal.returns-in-Ok-Err
returns-in-Ok-Err c =
    sym (c.loop-at.invariant ∙ left_there c.args.width c.loop-at.at c.args.left.now c.args.right.now c.loop-at-test.true c.in-Ok-Err.ensures.ok.0 c.in-Ok-Err.ensures'.err.1)

pub loop-at-preserved : goal.loop-at-preserved
loop-at-preserved c =
    goes_on c.args.width c.loop-at.at c.args.left.now c.args.right.now (columns_cmp c.args.width c.args.left.now c.args.right.now) c.loop-at.invariant c.loop-at-test.true _ _ c.in-Ok-Ok.ensures.ok c.in-Ok-Ok.ensures'.ok
    c.compare.result c.compare.ensures c.in-Equal.is
