use Rattle.std.proofs.Common.{◌≡◌, inl, true, false, refl, arith}
use Rattle.office_words.specs.declared.fault.Fault.TheVariants.{Disk, Full}
use Rattle.example_tests.specs.Examples.{counting}
use Rattle.example_tests.proofs.Causes.{not_risen, unmet, unmet_other}
use Rattle.example_tests.proofs.examples.causes.examples_of_causes_of_disk.Goals as goal

pub returns-clause-risen : goal.returns-clause-risen
returns-clause-risen c = λ h r is_open. inl (omega arith)

pub returns-clause-shut : goal.returns-clause-shut
returns-clause-shut c = λ h r is_open. absurd (let k : false ≡ true = is_open in cc)

pub returns-clause-unmet : goal.returns-clause-unmet
returns-clause-unmet c = λ h r cause. unmet (counting 3) (counting 3) h r Disk not_risen (cause refl)

pub returns-clause-refused_for_room : goal.returns-clause-refused_for_room
returns-clause-refused_for_room c = λ h r cause. unmet_other Full Disk (λ same. cc) (counting 3) (counting 3) h r not_risen (cause refl)

pub returns-clause-form : goal.returns-clause-form
returns-clause-form c = λ old new h r none. none
