use Rattle.std.proofs.Common.{inl, inr, refl}
use Rattle.example_tests.proofs.examples.servings.examples_of_trial_desks.Goals as goal

pub returns-clause-done : goal.returns-clause-done
returns-clause-done c = λ old new founded. record { old = old; new = new; founded = founded; done = refl }

pub returns-clause-stopped : goal.returns-clause-stopped
returns-clause-stopped c = λ old new founded. inr (record { old = old; new = new; founded = founded; done = (refl, refl) })

pub returns-clause-no_memory : goal.returns-clause-no_memory
returns-clause-no_memory c = inl (refl, tt)

pub returns-clause-begun : goal.returns-clause-begun
returns-clause-begun c = λ is. elim is [
  | inl none ↦ none.1
  | inr stopped ↦ stopped.done
]

pub returns-clause-other_fault : goal.returns-clause-other_fault
returns-clause-other_fault c = λ is. elim is [
  | inl none ↦ let k = none.0 in cc
  | inr stopped ↦ stopped.done
]

pub returns-clause-undone : goal.returns-clause-undone
returns-clause-undone c = λ is. is.done

pub returns-clause-not_founded : goal.returns-clause-not_founded
returns-clause-not_founded c = λ new never is. never is.old is.founded
