use Rattle.std.proofs.Common.{refl}
use Rattle.journal_faults.specs.declared.difference.Difference.TheVariants as difference
use Rattle.example_tests.proofs.Verified.{differs_from_founding}
use Rattle.example_tests.proofs.examples.verifications.examples_of_no_difference.Goals as goal

pub returns-clause-listed : goal.returns-clause-listed
returns-clause-listed g c = λ office shows is. differs_from_founding g.S.Store office difference.Office shows is refl

pub returns-clause-user : goal.returns-clause-user
returns-clause-user g c = λ office name shows is. differs_from_founding g.S.Store office (difference.User name) shows is refl

pub returns-clause-line : goal.returns-clause-line
returns-clause-line g c = λ office shows is. differs_from_founding g.S.Store office difference.Line shows is
