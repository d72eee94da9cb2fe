use Rattle.std.proofs.Common.{◌≡◌, Bool, true, false, refl, arith}
use Rattle.office_words.specs.declared.fault.Fault.{Fault}
use Rattle.office_words.specs.declared.fault.Fault.TheVariants.{Disk, Full}
use Rattle.office_policy.specs.Handled.{HasRisen}
use Rattle.example_tests.proofs.examples.journals.examples_of_faults_while_settling.Goals as goal

none_risen : HasRisen 0 0 → ⊥
none_risen risen = omega (arith, risen)

true_is_false : ◌≡◌ {A = Bool} true false → ⊥
true_is_false e = cc

full_is_disk : ◌≡◌ {A = Fault} Full Disk → ⊥
full_is_disk e = cc

pub returns-clause-disk : goal.returns-clause-disk
returns-clause-disk c = λ new settled. none_risen (settled.cause tt refl).1

pub returns-clause-room : goal.returns-clause-room
returns-clause-room c = λ new settled. none_risen (settled.cause tt).1

pub returns-clause-form : goal.returns-clause-form
returns-clause-form c = λ old new settled. settled.cause tt

pub returns-clause-other_call : goal.returns-clause-other_call
returns-clause-other_call c = λ new settled. full_is_disk (settled.cause tt).0

pub returns-clause-not_due : goal.returns-clause-not_due
returns-clause-not_due c = λ new fault settled. true_is_false settled.asked.1

pub returns-clause-ended : goal.returns-clause-ended
returns-clause-ended c = λ new fault settled. let k : ◌≡◌ {A = Bool} false true = settled.asked.0 in cc
