use Rattle.std.proofs.Common.{inl, inr, refl}
use Rattle.example_tests.proofs.Causes.{not_in_doubt, not_written}
use Rattle.example_tests.proofs.examples.causes.examples_of_what_is_unwritten.Goals as goal

pub returns-clause-same : goal.returns-clause-same
returns-clause-same c = (refl, λ left may. may)

pub returns-clause-less : goal.returns-clause-less
returns-clause-less c = (refl, λ left may. elim may [ inl is ↦ inl is | inr is ↦ inl is ])

pub returns-clause-written : goal.returns-clause-written
returns-clause-written c = not_written

pub returns-clause-in_doubt : goal.returns-clause-in_doubt
returns-clause-in_doubt c = not_in_doubt
