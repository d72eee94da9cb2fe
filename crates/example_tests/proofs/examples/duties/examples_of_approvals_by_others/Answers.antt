use Rattle.std.proofs.Common.{◌≡◌, ◌∙◌, ◌<◌, ℕ, zero, suc, List, [], ◌∷◌, true, false, Some, slice_index_or, refl, sym, ap, subst, arith}
use Rattle.std.specs.List.{Contains}
use Rattle.profile_text.specs.Digest.{digest_of}
use Rattle.office_words.specs.Lists.{holds_role}
use Rattle.office_words.specs.declared.role.Role.TheVariants.{Reviewer}
use Rattle.office_policy.specs.Examples.{ben, has_roles, one_submitted, rev, sue, web}
use Rattle.office_policy.specs.History.{History}
use Rattle.office_policy.specs.LawExamples.{names_text, text_approved}
use Rattle.office_policy.specs.Revisions.{is_author}
use Rattle.office_policy.specs.Users.{user_of}
use Rattle.office_policy.specs.Votes.{CastVote, vote_of}
use Rattle.office_policy.proofs.DutyFacts.{distinct_approvals}
use Rattle.example_tests.proofs.Duties.{false_is_true, same, true_is_false}
use Rattle.example_tests.proofs.examples.duties.examples_of_approvals_by_others.Goals as goal

-- what holds of both holds of each of the two
each_of : (Holds : List ℕ → Type 0) → Holds rev → Holds sue → (name : List ℕ) → Contains (rev ∷ sue ∷ []) name → Holds name
each_of Holds first second name is = at is.0 is.1 is.2
  where
    at : (k : ℕ) → k < 2 → slice_index_or (rev ∷ sue ∷ []) k name ≡ name → Holds name
    at zero among is = subst Holds is first
    at (suc zero) among is = subst Holds is second
    at (suc (suc k)) among is = absurd (omega (arith, among))

abbrev WasReviewer : List ℕ → Type 0
WasReviewer name = (v : CastVote) → vote_of text_approved web 1 name ≡ Some v → holds_role (user_of v.before name) Reviewer ≡ true

rev_was : WasReviewer rev
rev_was v is = subst (λ (v : CastVote). holds_role (user_of v.before rev) Reviewer ≡ true) (same _ v is) refl

sue_was : WasReviewer sue
sue_was v is = subst (λ (v : CastVote). holds_role (user_of v.before sue) Reviewer ≡ true) (same _ v is) refl

pub returns-clause-others : goal.returns-clause-others
returns-clause-others c = record {
  distinct = distinct_approvals text_approved web 1;
  reviewers_then = λ name v is stands. each_of WasReviewer rev_was sue_was name is v stands;
  reviewers_now = each_of (λ name. holds_role (user_of text_approved name) Reviewer ≡ true) refl refl;
  no_authors = each_of (λ name. is_author text_approved web name ≡ false) refl refl;
  issuer_no_author = refl;
}

pub returns-clause-no_reviewer_then : goal.returns-clause-no_reviewer_then
returns-clause-no_reviewer_then c = λ are. false_is_true (are.reviewers_then rev cast (0, omega arith, refl) refl)
  where
    cast : CastVote
    cast = record { approves = true; digest = digest_of (1 ∷ []); before = has_roles rev 0 (3 ∷ []) ∷ one_submitted }

pub returns-clause-author : goal.returns-clause-author
returns-clause-author c = λ are. true_is_false (are.no_authors ben (0, omega arith, refl))

pub returns-clause-author_issues : goal.returns-clause-author_issues
returns-clause-author_issues c = λ are. true_is_false are.issuer_no_author
