use Rattle.std.proofs.Common.{refl}
use Rattle.implication.proofs.Exact.{not_equal_exact}
use Rattle.implication.proofs.range.range_implies.Goals as goal

pub returns-else-other-first : goal.returns-else-other-first
returns-else-other-first c = not_equal_exact c.args.first c.args.last c.args.other c.in-NotEqual.is c.ranges.last.fits c.if-other-first.false _ refl
