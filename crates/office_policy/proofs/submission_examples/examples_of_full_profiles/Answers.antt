use Rattle.std.proofs.Common.{◌∷◌, ◌∙◌, Ok, refl}
use Rattle.profile_text.specs.Text.{text_of}
use Rattle.office_policy.specs.Examples.{ann, web, withdraws}
use Rattle.office_policy.specs.Submitting.{with_revisions}
use Rattle.office_policy.proofs.SubmissionRows.{same_text, other_text, decided}
use Rattle.office_policy.proofs.submission_examples.examples_of_full_profiles.Goals as goal

pub returns-clause-last : goal.returns-clause-last
returns-clause-last c d p old reads other = decided (with_revisions 9998 old) ann web d (Ok p) reads ∙ rw (other_text (text_of p) old other) refl

pub returns-clause-full : goal.returns-clause-full
returns-clause-full c d p old reads other = decided (with_revisions 9999 old) ann web d (Ok p) reads ∙ rw (other_text (text_of p) old other) refl

pub returns-clause-full_of_withdrawn : goal.returns-clause-full_of_withdrawn
returns-clause-full_of_withdrawn c d p reads = decided (withdraws 9999 ∷ with_revisions 9999 (text_of p)) ann web d (Ok p) reads ∙ refl

pub returns-clause-same_before_full : goal.returns-clause-same_before_full
returns-clause-same_before_full c d p reads = decided (with_revisions 9999 (text_of p)) ann web d (Ok p) reads ∙ rw (same_text (text_of p)) refl
