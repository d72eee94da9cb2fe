use Rattle.std.proofs.Common.{arith}
use Rattle.widening.proofs.RankFacts.{new_are_above, new_are_possible, new_must_imply}
use Rattle.widening.proofs.ranks.asked_of_new.Goals as goal

pub returns-then-new-possible : goal.returns-then-new-possible
returns-then-new-possible c = new_are_possible c.args.base c.args.new c.least_possible-possible.result c.least_possible-possible.ensures (omega arith)

pub returns-then-base-new : goal.returns-then-base-new
returns-then-base-new c = new_are_above c.args.base c.args.new (omega arith) c.least_possible-possible.result c.least_possible-possible.ensures

pub returns : goal.returns
returns c = new_must_imply c.args.base c.args.new c.least_possible-possible.result c.least_possible-possible.ensures (omega arith)
