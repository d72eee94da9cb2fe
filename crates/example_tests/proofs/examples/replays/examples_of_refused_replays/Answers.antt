use Rattle.std.proofs.Common.{◌≡◌, ℕ, List, true, false, Option, Some, None, refl, sym}
use Rattle.example_tests.specs.Examples.{counting, founding, quiet, root}
use Rattle.example_tests.proofs.Causes.{other_history}
use Rattle.example_tests.proofs.Founded.{enrols_allowed}
use Rattle.office_policy.proofs.SurvivalFacts.{left_itself}
use Rattle.example_tests.proofs.Replays.{founded_of, once_of, stands_founded}
use Rattle.example_tests.proofs.examples.replays.examples_of_refused_replays.Goals as goal

pub returns-clause-second_founding : goal.returns-clause-second_founding
returns-clause-second_founding c = record {
  leaves = left_itself quiet (counting 3);
  why = λ h of clean. refl;
  never = λ h of clean allowed. once_of h of.1 allowed;
  stands = λ h of clean is_open. stands_founded 3 h of;
}

pub returns-clause-enrolment : goal.returns-clause-enrolment
returns-clause-enrolment c = λ is. let none : ◌≡◌ {A = Option (List ℕ)} (Some root) None = is.why founding (founded_of 3) tt in cc

pub returns-clause-no_rule : goal.returns-clause-no_rule
returns-clause-no_rule c = λ d is. (is.why founding (founded_of 3) tt).asks

pub returns-clause-allowed : goal.returns-clause-allowed
returns-clause-allowed c = λ is. is.never founding (founded_of 3) tt enrols_allowed

pub returns-clause-no_reason : goal.returns-clause-no_reason
returns-clause-no_reason c = λ is. is.why founding (founded_of 3) tt

pub returns-clause-changed : goal.returns-clause-changed
returns-clause-changed c = λ is. other_history (sym (is.leaves.office founding (founded_of 3)).1)

pub returns-clause-shut : goal.returns-clause-shut
returns-clause-shut c = λ is. let k : false ≡ true = (is.stands founding (founded_of 3) tt refl).is_open in cc
