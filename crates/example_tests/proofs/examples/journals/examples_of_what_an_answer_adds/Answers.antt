use Rattle.std.proofs.Common.{inl, inr, Some, None, refl, sym}
use Rattle.office_policy.specs.Handled.{AddsStruck}
use Rattle.office_policy.specs.Verdict.{Verdict, accepted, denied}
use Rattle.example_tests.specs.Examples.{counting, grown, quiet}
use Rattle.example_tests.proofs.Causes.{other_history}
use Rattle.example_tests.proofs.examples.journals.examples_of_what_an_answer_adds.Goals as goal

-- an event that is there isn't struck out
not_struck : (v : Verdict) → AddsStruck quiet v (counting 3) (grown 3) → ⊥
not_struck (accepted reply (Some e)) is = other_history is
not_struck (accepted reply None) is = is
not_struck (denied denial told) is = is

pub returns-clause-done : goal.returns-clause-done
returns-clause-done c = λ reply. refl

pub returns-clause-read : goal.returns-clause-read
returns-clause-read c = λ reply. refl

pub returns-clause-fault : goal.returns-clause-fault
returns-clause-fault c = λ v f. inl refl

pub returns-clause-not_done : goal.returns-clause-not_done
returns-clause-not_done c = λ reply is. other_history (sym is)

pub returns-clause-read_written : goal.returns-clause-read_written
returns-clause-read_written c = λ reply. other_history

pub returns-clause-denied_written : goal.returns-clause-denied_written
returns-clause-denied_written c = λ v d told. other_history

pub returns-clause-fault_written : goal.returns-clause-fault_written
returns-clause-fault_written c = λ v f adds. elim adds [
  | inl is ↦ other_history is
  | inr struck ↦ not_struck v struck
]
