use Rattle.std.proofs.Common.{◌≡◌, inl, inr, subst, arith}
use Rattle.office_words.specs.declared.fault.Fault.TheVariants.{Disk, Full}
use Rattle.office_policy.specs.Handled.{RefusesEvent}
use Rattle.office_policy.specs.Verdict.{Verdict, verdict}
use Rattle.office_policy.specs.History.{History}
use Rattle.example_tests.specs.Examples.{counting, refusing}
use Rattle.example_tests.proofs.Causes.{not_risen, refuses_one, unmet, unmet_other}
use Rattle.example_tests.proofs.examples.causes.examples_of_causes_of_full.Goals as goal

pub returns-clause-risen : goal.returns-clause-risen
returns-clause-risen c = λ h r. inl (omega arith)

pub returns-clause-greatest : goal.returns-clause-greatest
returns-clause-greatest c = λ h r. inl (omega arith)

pub returns-clause-refused : goal.returns-clause-refused
returns-clause-refused c = λ h r reply e is. inr (refuses_one Full (counting 3) h (verdict h r) reply e is)

pub returns-clause-unmet : goal.returns-clause-unmet
returns-clause-unmet c = λ h r. unmet (counting 3) (counting 3) h r Full not_risen

pub returns-clause-refused_for_disk : goal.returns-clause-refused_for_disk
returns-clause-refused_for_disk c = λ h r. unmet_other Disk Full (λ same. cc) (counting 3) (counting 3) h r not_risen

-- a verdict that writes nothing is refused by nothing
unrefused : (h : History) (v w : Verdict) → v ≡ w → (RefusesEvent (refusing Full) (counting 3) h w Full → ⊥) → RefusesEvent (refusing Full) (counting 3) h v Full → ⊥
unrefused h v w is none refuses = none (subst (λ u. RefusesEvent (refusing Full) (counting 3) h u Full) is refuses)

pub returns-clause-only_read : goal.returns-clause-only_read
returns-clause-only_read c = λ h r reply is met. elim met [
  | inl risen ↦ not_risen risen
  | inr refuses ↦ unrefused h (verdict h r) _ is (λ none. none) refuses
]

pub returns-clause-denied : goal.returns-clause-denied
returns-clause-denied c = λ h r d told is met. elim met [
  | inl risen ↦ not_risen risen
  | inr refuses ↦ unrefused h (verdict h r) _ is (λ none. none) refuses
]
