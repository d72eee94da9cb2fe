use Rattle.std.proofs.Common.{◌≡◌, true, false, refl, arith}
use Rattle.example_tests.proofs.Causes.{not_risen}
use Rattle.example_tests.proofs.examples.replays.examples_of_faults_while_looking.Goals as goal

pub returns-clause-room : goal.returns-clause-room
returns-clause-room c = omega arith

pub returns-clause-disk : goal.returns-clause-disk
returns-clause-disk c = λ is_open. omega arith

pub returns-clause-disk_shut : goal.returns-clause-disk_shut
returns-clause-disk_shut c = λ is_open. absurd (let k : false ≡ true = is_open in cc)

pub returns-clause-no_room : goal.returns-clause-no_room
returns-clause-no_room c = not_risen

pub returns-clause-no_disk : goal.returns-clause-no_disk
returns-clause-no_disk c = λ met. not_risen (met refl)

pub returns-clause-form : goal.returns-clause-form
returns-clause-form c = λ old new none. none
