use Rattle.std.proofs.Common.{◌≡◌, refl}
use Rattle.office_words.specs.declared.revision.State.{State}
use Rattle.office_words.specs.declared.revision.State.TheVariants.{Issued, Replaced, Withdrawn}
use Rattle.office_policy.specs.Examples.{ann}
use Rattle.example_tests.proofs.Duties.{false_is_true, no_other_text}
use Rattle.example_tests.proofs.examples.duties.examples_of_fetched_texts.Goals as goal

pub returns-clause-issued : goal.returns-clause-issued
returns-clause-issued c = record {
  was_submitted = record { author = ann; submitted = refl; is_digest = refl };
  was_issued = refl;
  is_issued = refl;
}

pub returns-clause-other_text : goal.returns-clause-other_text
returns-clause-other_text c = λ is. no_other_text is.was_submitted.author is.was_submitted.submitted

pub returns-clause-not_issued : goal.returns-clause-not_issued
returns-clause-not_issued c = λ is. false_is_true is.was_issued

pub returns-clause-withdrawn : goal.returns-clause-withdrawn
returns-clause-withdrawn c = λ is. let k : ◌≡◌ {A = State} Withdrawn Issued = is.is_issued in cc

pub returns-clause-replaced : goal.returns-clause-replaced
returns-clause-replaced c = λ is. let k : ◌≡◌ {A = State} Replaced Issued = is.is_issued in cc
