use Rattle.std.proofs.Common.{◌≤◌, ℕ, arith}
use Rattle.example_tests.proofs.Limits.{gave_times, read_times}
use Rattle.example_tests.proofs.examples.limits.examples_of_calls_for_a_file.Goals as goal

pub returns-clause-as_often : goal.returns-clause-as_often
returns-clause-as_often c = record { first = 0; last = 600000; calls = read_times 600000 600000 (omega arith) }

too_many : 600000 ≤ 599999 → ⊥
too_many below = absurd (omega (arith, below))

pub returns-clause-less_often : goal.returns-clause-less_often
returns-clause-less_often c = λ have. too_many (gave_times 599999 599999 have.first have.last have.calls)
