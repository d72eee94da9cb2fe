use Rattle.std.proofs.Common.{inl, inr, None, Some, refl}
use Rattle.example_tests.proofs.Servings.{never_open, never_stopped_open}
use Rattle.example_tests.proofs.examples.servings.examples_of_offices_that_are_served.Goals as goal

pub returns-clause-served : goal.returns-clause-served
returns-clause-served g c = λ old new closed. (new, refl, closed)

pub returns-clause-stopped : goal.returns-clause-stopped
returns-clause-stopped g c = λ old new ended. inl (new, (refl, refl), ended)

pub returns-clause-not_closed : goal.returns-clause-not_closed
returns-clause-not_closed g c = λ old new ended. inr (refl, (new, refl, ended))

pub returns-clause-undone : goal.returns-clause-undone
returns-clause-undone g c = λ old is. is.1

pub returns-clause-left_open : goal.returns-clause-left_open
returns-clause-left_open g c = λ old new. never_open g.D.Databases old new None

pub returns-clause-stopped_and_left_open : goal.returns-clause-stopped_and_left_open
returns-clause-stopped_and_left_open g c = λ old new. never_stopped_open g.D.Databases old new None

pub returns-clause-other_mark : goal.returns-clause-other_mark
returns-clause-other_mark g c = λ old new. never_open g.D.Databases old new (Some 3)

pub returns-clause-other_fault : goal.returns-clause-other_fault
returns-clause-other_fault g c = λ old new is. elim is [
  | inl stopped ↦ stopped.1
  | inr done ↦ let k = done.0 in cc
]
