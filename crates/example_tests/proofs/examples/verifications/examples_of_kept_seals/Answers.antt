use Rattle.std.proofs.Common.{refl, arith}
use Rattle.example_tests.specs.JournalExamples.{first_line}
use Rattle.example_tests.proofs.Verified.{keeps_first, no_seal_of}
use Rattle.example_tests.proofs.examples.verifications.examples_of_kept_seals.Goals as goal

pub returns-clause-same : goal.returns-clause-same
returns-clause-same c = keeps_first

pub returns-clause-none_before : goal.returns-clause-none_before
returns-clause-none_before c = (omega arith, refl)

pub returns-clause-more_lines : goal.returns-clause-more_lines
returns-clause-more_lines c = λ have. let few = have.0 in omega (arith, few)

pub returns-clause-no_seal : goal.returns-clause-no_seal
returns-clause-no_seal c = λ have. no_seal_of first_line have.1
