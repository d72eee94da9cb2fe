use Rattle.example_tests.proofs.Verified.{never_other_seal, too_few}
use Rattle.example_tests.proofs.examples.verifications.examples_of_other_seals.Goals as goal

pub returns-clause-too_few : goal.returns-clause-too_few
returns-clause-too_few c = too_few

pub returns-clause-own : goal.returns-clause-own
returns-clause-own c = never_other_seal

pub returns-clause-none_kept : goal.returns-clause-none_kept
returns-clause-none_kept c = λ has. has.other tt
