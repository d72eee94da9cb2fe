use Rattle.std.proofs.Common.{[], inl, inr, refl, sym, arith}
use Rattle.office_words.specs.declared.fault.Fault.TheVariants.{Full}
use Rattle.office_policy.proofs.SurvivalFacts.{survives_none}
use Rattle.example_tests.specs.Examples.{counting, founding, refusing}
use Rattle.example_tests.proofs.Causes.{not_risen, other_history}
use Rattle.example_tests.proofs.Founded.{founded_once}
use Rattle.example_tests.proofs.Replays.{allowed_of, founded_of}
use Rattle.example_tests.proofs.examples.replays.examples_of_faults_of_a_replay.Goals as goal

pub returns-clause-room : goal.returns-clause-room
returns-clause-room c = record {
  survives = record { clean = λ clean. clean; counts = omega arith; closes = λ clean is_open. inl is_open; shut = λ clean is_open. is_open; stays = λ e stray. stray; grows = λ clean. ([], refl) };
  cause = λ h of clean. inl (omega arith);
  office = λ h of. of;
  kept = λ clean. refl;
  crash = λ h of clean left may. inl may;
}

pub returns-clause-refused : goal.returns-clause-refused
returns-clause-refused c = record {
  survives = survives_none (refusing Full) (counting 3);
  cause = λ h of clean. inr (allowed_of h of.1, refl);
  office = λ h of. of;
  kept = λ clean. refl;
  crash = λ h of clean left may. inl may;
}

pub returns-clause-no_room : goal.returns-clause-no_room
returns-clause-no_room c = λ e failed. elim (failed.cause founding (founded_of 3) tt) [
  | inl risen ↦ not_risen risen
  | inr refuses ↦ refuses.1
]

pub returns-clause-no_disk : goal.returns-clause-no_disk
returns-clause-no_disk c = λ e failed. elim (failed.cause founding (founded_of 3) tt refl) [
  | inl risen ↦ not_risen risen
  | inr refuses ↦ refuses.1
]

pub returns-clause-not_allowed : goal.returns-clause-not_allowed
returns-clause-not_allowed c = λ failed. elim (failed.cause founding (founded_of 3) tt) [
  | inl risen ↦ not_risen risen
  | inr refuses ↦ founded_once refuses.0
]

pub returns-clause-form : goal.returns-clause-form
returns-clause-form c = λ e failed. failed.cause founding (founded_of 3) tt

pub returns-clause-changed : goal.returns-clause-changed
returns-clause-changed c = λ failed. other_history (sym (failed.office founding (founded_of 3)).1)
