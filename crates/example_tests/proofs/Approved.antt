-- A revision that two approve, and what isn't approved.
use Rattle.std.proofs.Common.{◌≡◌, ◌≢◌, ◌∙◌, ◌≤◌, ◌<◌, ℕ, zero, suc, List, [], ◌∷◌, ◌++◌, drop, true, false, Option, Some, None, length, slice_index_or, refl, sym, ap, subst, arith, length-append}
use Rattle.std.specs.List.{AllPairs, Contains}
use Rattle.profile_text.specs.Digest.{digest_of}
use Rattle.review_policy.specs.declared.act.ProfileView.TheVariants.{Fetch}
use Rattle.review_policy.specs.declared.act.RevisionAct.TheVariants.{Issue}
use Rattle.review_policy.specs.declared.ask.Ask.TheVariants as ask
use Rattle.office_words.specs.declared.name.ProfileName.{ProfileName}
use Rattle.review_policy.specs.declared.denial.Need.{Need}
use Rattle.review_policy.specs.declared.denial.Need.TheVariants.{One, TwoWithSecurity}
use Rattle.review_policy.specs.Rules.{approvals_of}
use Rattle.office_policy.specs.Examples.{ann, iss, issues, one_submitted, rev, submits, sue, text, web}
use Rattle.office_policy.specs.Headline.{Approves, HasSecurity, IsApproved, WasApproved}
use Rattle.office_policy.specs.History.{History, issued}
use Rattle.office_policy.specs.Need.{need_at}
use Rattle.office_policy.specs.Revisions.{Submission, is_author, submission_of}
use Rattle.office_policy.specs.Votes.{approvals}
use Rattle.office_policy.proofs.HeadlineFacts.{still_submitted}
use Rattle.example_tests.specs.Examples.{approved, approves_text, founding}

-- ---- two approve it

rev_approves : Approves approved web 1 text rev
rev_approves = record {
  vote = record { approves = true; digest = digest_of text; before = one_submitted };
  stands = refl;
  approves = refl;
  of_the_text = refl;
  was_reviewer = refl;
  is_reviewer = refl;
  no_author = refl;
}

sue_approves : Approves approved web 1 text sue
sue_approves = record {
  vote = record { approves = true; digest = digest_of text; before = approves_text rev ∷ one_submitted };
  stands = refl;
  approves = refl;
  of_the_text = refl;
  was_reviewer = refl;
  is_reviewer = refl;
  no_author = refl;
}

each : (name : List ℕ) → Contains (rev ∷ sue ∷ []) name → Approves approved web 1 text name
each name is = at is.0 is.1 is.2
  where
    at : (k : ℕ) → k < 2 → slice_index_or (rev ∷ sue ∷ []) k name ≡ name → Approves approved web 1 text name
    at zero among is = subst (Approves approved web 1 text) is rev_approves
    at (suc zero) among is = subst (Approves approved web 1 text) is sue_approves
    at (suc (suc k)) among is = absurd (omega (arith, among))

apart : AllPairs (λ (a b : List ℕ). a ≢ b) (rev ∷ sue ∷ [])
apart zero zero d before among = absurd (omega (arith, before))
apart zero (suc zero) d before among = λ same. let k : ◌≡◌ {A = ℕ} 101 117 = ap (λ (l : List ℕ). slice_index_or l 1 0) same in omega (arith, k)
apart zero (suc (suc j)) d before among = absurd (omega (arith, among))
apart (suc i) zero d before among = absurd (omega (arith, before))
apart (suc i) (suc j) d before among = absurd (omega (arith, before, among))

at_most_two : (need : Need) → approvals_of need ≤ 2
at_most_two One = omega arith
at_most_two TwoWithSecurity = omega arith

secured : HasSecurity approved web 1
secured = record {
  name = sue;
  among = (1, omega arith, refl);
  vote = record { approves = true; digest = digest_of text; before = approves_text rev ∷ one_submitted };
  stands = refl;
  had_security = refl;
  has_security = refl;
}

two_approve : (issuer : List ℕ) → is_author approved web issuer ≡ false → IsApproved approved issuer web 1 text
two_approve issuer no_author = record {
  author = ann;
  submitted = refl;
  distinct = apart;
  each = each;
  count = at_most_two (need_at approved web 1);
  secured = λ needs. secured;
  issuer_no_author = no_author;
}

pub was_approved : WasApproved (issues 1 ∷ approved) (ask.SeeProfile Fetch web) (digest_of text) text 1
was_approved = record {
  profile = web;
  asked = refl;
  of_its_text = refl;
  issuer = iss;
  since = [];
  before = approved;
  issue = refl;
  approved = two_approve iss refl;
}

pub is_approved : (name : List ℕ) → name ≡ iss → IsApproved approved name web 1 text
is_approved name is = subst (λ (name : List ℕ). IsApproved approved name web 1 text) (sym is) (two_approve iss refl)

-- ---- what isn't approved

pub by_no_author : (name : List ℕ) (p : ProfileName) (n : ℕ) → name ≡ ann → ask.ActOnRevision Issue web 1 ≡ ask.ActOnRevision Issue p n → is_author approved p name ≡ false → ⊥
by_no_author name p n is asked none =
    let same : web ≡ p = cc in
    let k : true ≡ false = ap (λ (q : ProfileName). is_author approved q ann) same ∙ ap (is_author approved p) (sym is) ∙ none in
    cc

-- the founding isn't issued
pub never_issued : (since before : History) (issuer : List ℕ) (p : ProfileName) (n : ℕ) → founding ≡ since ++ issued issuer p n ∷ before → ⊥
never_issued [] before issuer p n is = cc
never_issued (e ∷ since) before issuer p n is =
    let size = ap (λ (h : History). length h) is in
    omega (arith, size, length-append since (issued issuer p n ∷ before))

at_least_one : (need : Need) → 1 ≤ approvals_of need
at_least_one One = omega arith
at_least_one TwoWithSecurity = omega arith

-- nor approved by nobody
pub never_approved : (since before : History) (issuer : List ℕ) (p : ProfileName) (n : ℕ) → issues 1 ∷ submits ann ∷ [] ≡ since ++ issued issuer p n ∷ before
    → approvals_of (need_at before p n) ≤ length (approvals before p n) → ⊥
never_approved [] before issuer p n is count =
    let rest : submits ann ∷ [] ≡ before = ap (drop 1) is in
    let none : 0 ≡ length (approvals before p n) = ap (λ (h : History). length (approvals h p n)) rest in
    omega (arith, at_least_one (need_at before p n), none, count)
never_approved (e ∷ []) before issuer p n is count = let k : submits ann ∷ [] ≡ issued issuer p n ∷ before = ap (drop 1) is in cc
never_approved (e ∷ f ∷ since) before issuer p n is count =
    let size = ap (λ (h : History). length h) is in
    omega (arith, size, length-append since (issued issuer p n ∷ before))

abbrev text_in : Option Submission → List ℕ
text_in None = []
text_in (Some submission) = submission.text

-- of that revision another text is handed in nowhere
pub never_other : (since before : History) (issuer bytes author : List ℕ) (p : ProfileName) → ask.SeeProfile Fetch web ≡ ask.SeeProfile Fetch p → issues 1 ∷ approved ≡ since ++ issued issuer p 1 ∷ before
    → submission_of before p 1 ≡ Some (record { author = author; text = bytes }) → text ≡ bytes
never_other since before issuer bytes author p asked is submitted =
    let same : web ≡ p = cc in
    let handed_in : submission_of (since ++ issued issuer p 1 ∷ before) p 1 ≡ Some (record { author = author; text = bytes }) =
    still_submitted since (issued issuer p 1 ∷ before) p 1 (record { author = author; text = bytes }) submitted in
    let both : ◌≡◌ {A = Option Submission} (Some (record { author = ann; text = text })) (Some (record { author = author; text = bytes })) =
    ap (λ (q : ProfileName). submission_of (issues 1 ∷ approved) q 1) same ∙ ap (λ (h : History). submission_of h p 1) is ∙ handed_in in
    ap text_in both
