use Rattle.std.proofs.Common.{◌≡◌, Option, Some, None, refl}
use Rattle.office_policy.specs.Revisions.{Submission}
use Rattle.example_tests.proofs.Duties.{handed_in, nothing_is_no_digest}
use Rattle.example_tests.proofs.examples.duties.examples_of_digests_of_revisions.Goals as goal

pub returns-clause-carried : goal.returns-clause-carried
returns-clause-carried c = record { submission = handed_in; submitted = refl; of_its_text = refl }

pub returns-clause-no_digest : goal.returns-clause-no_digest
returns-clause-no_digest c = λ is. nothing_is_no_digest is.submission.text is.of_its_text

pub returns-clause-no_revision : goal.returns-clause-no_revision
returns-clause-no_revision c = λ digest is. let k : ◌≡◌ {A = Option Submission} None (Some is.submission) = is.submitted in cc
