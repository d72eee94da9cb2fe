use Rattle.std.proofs.Common.{arith}
use Rattle.example_tests.proofs.Causes.{not_risen}
use Rattle.example_tests.proofs.examples.causes.examples_of_counts_that_rose.Goals as goal

pub returns-clause-by_one : goal.returns-clause-by_one
returns-clause-by_one c = omega arith

pub returns-clause-by_more : goal.returns-clause-by_more
returns-clause-by_more c = omega arith

pub returns-clause-greatest : goal.returns-clause-greatest
returns-clause-greatest c = omega arith

pub returns-clause-equal : goal.returns-clause-equal
returns-clause-equal c = not_risen

pub returns-clause-fewer : goal.returns-clause-fewer
returns-clause-fewer c = λ risen. omega (arith, risen)
