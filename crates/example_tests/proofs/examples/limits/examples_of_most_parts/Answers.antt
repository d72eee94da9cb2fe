use Rattle.std.proofs.Common.{arith, refl}
use Rattle.example_tests.proofs.examples.limits.examples_of_most_parts.Goals as goal

pub returns-clause-fields : goal.returns-clause-fields
returns-clause-fields c = λ bytes h reads count. (reads, omega (arith, count))

pub returns-clause-more_fields : goal.returns-clause-more_fields
returns-clause-more_fields c = λ bytes h count is. omega (arith, count, is.1)

pub returns-clause-entries : goal.returns-clause-entries
returns-clause-entries c = refl

pub returns-clause-more_entries : goal.returns-clause-more_entries
returns-clause-more_entries c = refl

pub returns-clause-architectures : goal.returns-clause-architectures
returns-clause-architectures c = refl

pub returns-clause-more_architectures : goal.returns-clause-more_architectures
returns-clause-more_architectures c = refl

pub returns-clause-flags : goal.returns-clause-flags
returns-clause-flags c = refl

pub returns-clause-more_flags : goal.returns-clause-more_flags
returns-clause-more_flags c = refl

pub returns-clause-names : goal.returns-clause-names
returns-clause-names c = refl

pub returns-clause-more_names : goal.returns-clause-more_names
returns-clause-more_names c = refl

pub returns-clause-arguments : goal.returns-clause-arguments
returns-clause-arguments c = refl

pub returns-clause-more_arguments : goal.returns-clause-more_arguments
returns-clause-more_arguments c = refl
