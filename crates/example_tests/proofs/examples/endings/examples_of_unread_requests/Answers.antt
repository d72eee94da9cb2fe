use Rattle.std.proofs.Common.{arith}
use Rattle.example_tests.specs.EdgeExamples.{at_five}
use Rattle.example_tests.proofs.Endings.{is_just, none_left_over, shows_just, taken_all}
use Rattle.example_tests.proofs.examples.endings.examples_of_unread_requests.Goals as goal

pub returns-clause-unread : goal.returns-clause-unread
returns-clause-unread c = taken_all

pub returns-clause-too_few : goal.returns-clause-too_few
returns-clause-too_few c = none_left_over at_five shows_just is_just 3 2
    (λ same. omega (arith, same)) (λ same. omega (arith, same)) (λ same. omega (arith, same))
