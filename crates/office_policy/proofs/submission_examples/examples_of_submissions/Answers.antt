use Rattle.std.proofs.Common.{◌∷◌, ◌∙◌, Ok, refl}
use Rattle.profile_text.specs.Text.{text_of}
use Rattle.office_policy.specs.History.{submitted}
use Rattle.office_policy.specs.Examples.{ann, ben, web, unknown_profile, office, issues, withdraws}
use Rattle.office_policy.specs.Submitting.{submits_text}
use Rattle.office_policy.proofs.SubmissionRows.{same_text, other_text, decided, told_new, told_fault}
use Rattle.office_policy.proofs.submission_examples.examples_of_submissions.Goals as goal

pub returns-clause-first : goal.returns-clause-first
returns-clause-first c d p reads = told_new office ann web d p reads refl

pub returns-clause-next : goal.returns-clause-next
returns-clause-next c d p old reads other = told_new (submitted ann web old ∷ office) ben web d p reads (rw (other_text (text_of p) old other) refl)

pub returns-clause-open : goal.returns-clause-open
returns-clause-open c d p reads = decided (submits_text p ∷ office) ann web d (Ok p) reads ∙ rw (same_text (text_of p)) refl

pub returns-clause-open_of_another_author : goal.returns-clause-open_of_another_author
returns-clause-open_of_another_author c d p reads = decided (submits_text p ∷ office) ben web d (Ok p) reads ∙ rw (same_text (text_of p)) refl

pub returns-clause-of_another_profile : goal.returns-clause-of_another_profile
returns-clause-of_another_profile c d p reads = decided (submits_text p ∷ office) ann unknown_profile d (Ok p) reads ∙ refl

pub returns-clause-issued : goal.returns-clause-issued
returns-clause-issued c d p reads = decided (issues 1 ∷ submits_text p ∷ office) ann web d (Ok p) reads ∙ refl

pub returns-clause-closed : goal.returns-clause-closed
returns-clause-closed c d p new reads other = decided (submitted ann web new ∷ submits_text p ∷ office) ann web d (Ok p) reads ∙ rw (other_text (text_of p) new other) refl

pub returns-clause-withdrawn : goal.returns-clause-withdrawn
returns-clause-withdrawn c d p reads = decided (withdraws 1 ∷ submits_text p ∷ office) ann web d (Ok p) reads ∙ refl

pub returns-clause-no_document : goal.returns-clause-no_document
returns-clause-no_document c d fault fails = told_fault office ann web d fault fails refl
