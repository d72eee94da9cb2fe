use Rattle.std.proofs.Common.{◌∙◌, [], ◌∷◌, inl, inr, refl, sym, ap, arith}
use Rattle.office_policy.specs.History.{History}
use Rattle.example_tests.specs.Examples.{enrols, founding}
use Rattle.example_tests.proofs.Causes.{other_history}
use Rattle.example_tests.proofs.Founded.{founded_once}
use Rattle.example_tests.proofs.Replays.{allowed_of, founded_of, stands_grown}
use Rattle.example_tests.proofs.examples.replays.examples_of_events_that_happened_again.Goals as goal

pub returns-clause-enrolment : goal.returns-clause-enrolment
returns-clause-enrolment c = record {
  survives = record { clean = λ clean. clean; counts = omega arith; closes = λ clean is_open. inl is_open; shut = λ clean is_open. is_open; stays = λ e stray. stray; grows = λ clean. (enrols ∷ [], refl) };
  allowed = λ h of clean. allowed_of h of.1;
  stands = λ h of clean. stands_grown h of.1;
  crash = λ h of clean left may. inr (
    allowed_of h of.1,
    elim may [
      | inl is ↦ is ∙ ap (λ (k : History). enrols ∷ k) (sym of.1)
      | inr is ↦ is ∙ ap (λ (k : History). enrols ∷ k) (sym of.1)
    ],
  );
}

pub returns-clause-not_written : goal.returns-clause-not_written
returns-clause-not_written c = λ happened. other_history (happened.stands founding (founded_of 3) tt).is_of.1

pub returns-clause-not_allowed : goal.returns-clause-not_allowed
returns-clause-not_allowed c = λ new happened. founded_once (happened.allowed founding (founded_of 3) tt)
