use Rattle.std.proofs.Common.{◌≡◌, ℕ, arith}
use Rattle.office_policy.specs.Examples.{second_issued, web}
use Rattle.office_policy.proofs.Histories.{one_issued}
use Rattle.example_tests.proofs.examples.laws.examples_of_one_issued_revision.Goals as goal

pub returns-clause-one : goal.returns-clause-one
returns-clause-one c = one_issued second_issued web

pub returns-clause-two : goal.returns-clause-two
returns-clause-two c = λ h p one first second. let k : ◌≡◌ {A = ℕ} 1 2 = one 1 2 first second in omega (arith, k)
