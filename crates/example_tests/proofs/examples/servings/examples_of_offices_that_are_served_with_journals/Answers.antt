use Rattle.std.proofs.Common.{inl, inr, refl}
use Rattle.example_tests.proofs.Servings.{never_kept_open}
use Rattle.example_tests.proofs.examples.servings.examples_of_offices_that_are_served_with_journals.Goals as goal

pub returns-clause-served : goal.returns-clause-served
returns-clause-served g c = λ path old new office ended. record { old = old; new = new; office = office; done = refl; ended = ended }

pub returns-clause-stopped : goal.returns-clause-stopped
returns-clause-stopped g c = λ path old new office ended. inl (record { old = old; new = new; office = office; done = (refl, refl); ended = ended })

pub returns-clause-not_closed : goal.returns-clause-not_closed
returns-clause-not_closed g c = λ path old new office ended. inr (refl, record { old = old; new = new; office = office; done = refl; ended = ended })

pub returns-clause-undone : goal.returns-clause-undone
returns-clause-undone g c = λ path is. is.done

pub returns-clause-no_journal : goal.returns-clause-no_journal
returns-clause-no_journal g c = λ path new is. is.office.journal.found

pub returns-clause-left_open : goal.returns-clause-left_open
returns-clause-left_open g c = λ path new. never_kept_open g.S.Store g.L.Disk g.D.Databases path new

pub returns-clause-other_fault : goal.returns-clause-other_fault
returns-clause-other_fault g c = λ path new is. elim is [
  | inl stopped ↦ stopped.done
  | inr done ↦ let k = done.0 in cc
]
