use Rattle.std.proofs.Common.{◌≡◌, ◌∙◌, [], ◌∷◌, true, Option, Some, None, refl, ap, arith}
use Rattle.office_policy.specs.Examples.{one_submitted, rev, text}
use Rattle.office_policy.specs.Revisions.{Submission}
use Rattle.office_policy.specs.Votes.{CastVote}
use Rattle.example_tests.proofs.Duties.{each_names, handed_in, no_digest, same}
use Rattle.example_tests.proofs.examples.duties.examples_of_approvals_of_the_text.Goals as goal

pub returns-clause-each : goal.returns-clause-each
returns-clause-each c = record { submission = handed_in; submitted = refl; each = each_names }

pub returns-clause-no_revision : goal.returns-clause-no_revision
returns-clause-no_revision c = λ are. let k : ◌≡◌ {A = Option Submission} None (Some are.submission) = are.submitted in cc

pub returns-clause-other_digest : goal.returns-clause-other_digest
returns-clause-other_digest c = λ are.
    let names = are.each rev (0, omega arith, refl) in
    let cast : CastVote = record { approves = true; digest = 9 ∷ []; before = one_submitted } in
    no_digest are.submission.text (ap (λ (v : CastVote). v.digest) (same cast names.vote names.stands) ∙ names.digest)
