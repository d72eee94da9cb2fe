use Rattle.std.proofs.Common.{◌≡◌, [], ◌∷◌, Option, Some, None, refl}
use Rattle.office_policy.specs.Examples.{ann, text}
use Rattle.office_policy.specs.Revisions.{Submission}
use Rattle.example_tests.proofs.Duties.{no_other_text, nothing_is_no_digest}
use Rattle.example_tests.proofs.examples.duties.examples_of_texts_of_revisions.Goals as goal

pub returns-clause-carried : goal.returns-clause-carried
returns-clause-carried c = record { author = ann; submitted = refl; is_digest = refl }

pub returns-clause-other_text : goal.returns-clause-other_text
returns-clause-other_text c = λ is. no_other_text is.author is.submitted

pub returns-clause-other_revision : goal.returns-clause-other_revision
returns-clause-other_revision c = λ is. let k : ◌≡◌ {A = Option Submission} None (Some (record { author = is.author; text = text })) = is.submitted in cc

pub returns-clause-no_digest : goal.returns-clause-no_digest
returns-clause-no_digest c = λ is. nothing_is_no_digest text is.is_digest
