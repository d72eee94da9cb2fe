use Rattle.std.proofs.Common.{arith, rules}
use Rattle.widening.proofs.RankFacts.{default_is_above, default_is_possible, stricter_must_imply}
use Rattle.widening.proofs.ranks.asked_of_base.Goals as goal

pub returns-then-new : goal.returns-then-new
returns-then-new c = default_is_possible c.args.base c.args.new c.least_possible-possible.result c.least_possible-possible.ensures (search rules)

pub returns-then-base-new : goal.returns-then-base-new
returns-then-base-new c = default_is_above c.args.base c.args.new c.least_possible-possible.result c.least_possible-possible.ensures (search rules) (omega arith) (omega arith)

pub returns : goal.returns
returns c = stricter_must_imply c.args.base c.args.new c.least_possible-possible.result c.least_possible-possible.ensures (search rules) (omega arith) (omega arith)
