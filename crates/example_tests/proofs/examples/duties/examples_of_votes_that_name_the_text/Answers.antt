use Rattle.std.proofs.Common.{◌≡◌, ◌∙◌, [], ◌∷◌, true, false, Option, Some, None, refl, sym, ap, subst}
use Rattle.std.specs.List.{list_any}
use Rattle.std.specs.Prelude.{bytes_eq}
use Rattle.profile_text.specs.Digest.{digest_of}
use Rattle.office_policy.specs.Examples.{ann, ben, one_submitted, rev, submits, text, web}
use Rattle.office_policy.specs.History.{History}
use Rattle.office_policy.specs.LawExamples.{names_text}
use Rattle.office_policy.specs.Revisions.{Submission, submission_of}
use Rattle.office_policy.specs.Votes.{CastVote}
use Rattle.example_tests.proofs.Duties.{false_is_true, handed_in, handed_in_since, no_digest, rev_names, same, true_is_false}
use Rattle.example_tests.proofs.examples.duties.examples_of_votes_that_name_the_text.Goals as goal

pub returns-clause-named : goal.returns-clause-named
returns-clause-named c = rev_names

pub returns-clause-no_vote : goal.returns-clause-no_vote
returns-clause-no_vote c = λ names. let k : ◌≡◌ {A = Option CastVote} None (Some names.vote) = names.stands in cc

pub returns-clause-rejects : goal.returns-clause-rejects
returns-clause-rejects c = λ names.
    let cast : CastVote = record { approves = false; digest = digest_of text; before = one_submitted } in
    false_is_true (ap (λ (v : CastVote). v.approves) (same cast names.vote names.stands) ∙ names.approves)

pub returns-clause-other_digest : goal.returns-clause-other_digest
returns-clause-other_digest c = λ names.
    let cast : CastVote = record { approves = true; digest = 9 ∷ []; before = one_submitted } in
    no_digest text (ap (λ (v : CastVote). v.digest) (same cast names.vote names.stands) ∙ names.digest)

-- the vote of rev is the first behind the submission
abbrev rev_cast : CastVote
rev_cast = record { approves = true; digest = digest_of text; before = one_submitted }

pub returns-clause-other_submission : goal.returns-clause-other_submission
returns-clause-other_submission c = λ names.
    let before : one_submitted ≡ names.vote.before = ap (λ (v : CastVote). v.before) (same rev_cast names.vote names.stands) in
    let both : Some handed_in ≡ Some (record { author = ben; text = text }) = ap (λ (h : History). submission_of h web 1) before ∙ names.after_it in
    false_is_true (ap (λ (s : Submission). bytes_eq s.author ben) (same handed_in _ both))

pub returns-clause-submitted_since : goal.returns-clause-submitted_since
returns-clause-submitted_since c = λ names.
    handed_in_since names.newer names.vote.before (names_text rev ∷ one_submitted) names.vote.digest names.vote.approves names.cast names.none_since
