use Rattle.std.proofs.Common.{◌≡◌, ◌∙◌, ◌<◌, ◌≤◌, ℕ, zero, suc, List, [], ◌∷◌, true, false, Option, Some, None, length, refl, sym, ap, subst, arith}
use Rattle.std.specs.Prelude.{slice_index_or}
use Rattle.sha2.proofs.Facts256.{length-sha256}
use Rattle.profile_text.specs.Digest.{digest_of}
use Rattle.review_policy.specs.declared.denial.Need.{Need}
use Rattle.review_policy.specs.declared.denial.Need.TheVariants.{One, TwoWithSecurity}
use Rattle.office_words.specs.declared.role.Role.TheVariants.{Security}
use Rattle.review_policy.specs.Rules.{approvals_of}
use Rattle.office_words.specs.Lists.{holds_role}
use Rattle.office_policy.specs.Examples.{ann, ben, rev, ray, sue, web, text, one_submitted}
use Rattle.office_policy.specs.Headline.{Approves}
use Rattle.office_policy.specs.LawExamples.{names_text, text_approved, reviewers_approve_text}
use Rattle.office_policy.specs.Need.{need_at}
use Rattle.office_policy.specs.Revisions.{Submission}
use Rattle.office_policy.specs.Users.{user_of}
use Rattle.office_policy.specs.Votes.{CastVote, approvals}
use Rattle.office_policy.proofs.DutyFacts.{distinct_approvals}
use Rattle.office_policy.proofs.law_examples.examples_of_approved_texts.Goals as goal

false_is_true : false ≡ true → ⊥
false_is_true e = cc

true_is_false : true ≡ false → ⊥
true_is_false e = cc

same : {A : Type 0} (x y : A) → Some x ≡ Some y → x ≡ y
same x y is = cc

-- two are enough for any need, and none for none
two_enough : (need : Need) → approvals_of need ≤ 2
two_enough One = omega arith
two_enough TwoWithSecurity = omega arith

none_enough : (need : Need) → approvals_of need ≤ 0 → ⊥
none_enough One below = absurd (omega (arith, below))
none_enough TwoWithSecurity below = absurd (omega (arith, below))

two_of_one : 2 ≤ 1 → ⊥
two_of_one below = absurd (omega (arith, below))

abbrev Among : List (List ℕ) → ℕ → List ℕ → Type 0
Among names k name = (k < length names) × (slice_index_or names k name ≡ name)

-- each of the two approvals is of the text
each_approves : (k : ℕ) (name : List ℕ) → Among (approvals text_approved web 1) k name → Approves text_approved web 1 text name
each_approves zero name among = subst (Approves text_approved web 1 text) among.1 (record {
  vote = record { approves = true; digest = digest_of text; before = one_submitted };
  stands = refl;
  approves = refl;
  of_the_text = refl;
  was_reviewer = refl;
  is_reviewer = refl;
  no_author = refl;
})
each_approves (suc zero) name among = subst (Approves text_approved web 1 text) among.1 (record {
  vote = record { approves = true; digest = digest_of text; before = names_text rev ∷ one_submitted };
  stands = refl;
  approves = refl;
  of_the_text = refl;
  was_reviewer = refl;
  is_reviewer = refl;
  no_author = refl;
})
each_approves (suc (suc k)) name among = absurd (omega (arith, among.0))

pub returns-clause-approved : goal.returns-clause-approved
returns-clause-approved c = record {
  author = ann;
  submitted = refl;
  distinct = distinct_approvals text_approved web 1;
  each = λ name among. each_approves among.0 name (among.1, among.2);
  count = two_enough (need_at text_approved web 1);
  secured = λ two. record {
    name = sue;
    among = (1, omega arith, refl);
    vote = record { approves = true; digest = digest_of text; before = names_text rev ∷ one_submitted };
    stands = refl;
    had_security = refl;
    has_security = refl;
  };
  issuer_no_author = refl;
}

pub returns-clause-none : goal.returns-clause-none
returns-clause-none c = λ is. none_enough (need_at one_submitted web 1) is.count

pub returns-clause-too_few : goal.returns-clause-too_few
returns-clause-too_few c = λ two is. two_of_one (subst (λ need. approvals_of need ≤ 1) two is.count)

-- neither of the two reviewers holds security
not_secure : (k : ℕ) (name : List ℕ) → Among (approvals reviewers_approve_text web 1) k name → holds_role (user_of reviewers_approve_text name) Security ≡ true → ⊥
not_secure zero name among has = false_is_true (subst (λ n. holds_role (user_of reviewers_approve_text n) Security ≡ true) (sym among.1) has)
not_secure (suc zero) name among has = false_is_true (subst (λ n. holds_role (user_of reviewers_approve_text n) Security ≡ true) (sym among.1) has)
not_secure (suc (suc k)) name among has = absurd (omega (arith, among.0))

pub returns-clause-none_secure : goal.returns-clause-none_secure
returns-clause-none_secure c = λ two is.
    let secure = is.secured two in
    not_secure secure.among.0 secure.name (secure.among.1, secure.among.2) secure.has_security

-- one byte is no digest
no_digest : (9 ∷ []) ≡ digest_of text → ⊥
unfolding digest_of
no_digest is = let k : 1 ≡ 32 = ap length is ∙ length-sha256 text in absurd (omega (arith, k))

pub returns-clause-other_digest : goal.returns-clause-other_digest
returns-clause-other_digest c = λ is.
    let by = is.each ray (0, omega arith, refl) in
    let cast : CastVote = record { approves = true; digest = 9 ∷ []; before = _ } in
    no_digest (ap (λ (v : CastVote). v.digest) (same cast by.vote by.stands) ∙ by.of_the_text)

pub returns-clause-author : goal.returns-clause-author
returns-clause-author c = λ is. true_is_false (is.each ben (0, omega arith, refl)).no_author

pub returns-clause-author_issues : goal.returns-clause-author_issues
returns-clause-author_issues c = λ is. true_is_false is.issuer_no_author

abbrev text_of : Option Submission → List ℕ
text_of None = []
text_of (Some s) = s.text

one_is_two : ◌≡◌ {A = List ℕ} (1 ∷ []) (2 ∷ []) → ⊥
one_is_two is = let k : ◌≡◌ {A = ℕ} 1 2 = ap (λ (l : List ℕ). slice_index_or l 0 0) is in absurd (omega (arith, k))

pub returns-clause-other_text : goal.returns-clause-other_text
returns-clause-other_text c = λ is. one_is_two (ap text_of is.submitted)

one_is_none : ◌≡◌ {A = List ℕ} (1 ∷ []) [] → ⊥
one_is_none is = cc

pub returns-clause-other_revision : goal.returns-clause-other_revision
returns-clause-other_revision c = λ is. one_is_none (sym (ap text_of is.submitted))
