-- The state of revisions, before and after a submission.
use Rattle.std.proofs.Common.{◌≡◌, ◌∙◌, ◌<◌, ◌≤◌, ◌==◌, ◌&&◌, ◌||◌, ℕ, suc, List, [], ◌∷◌, length, Bool, true, false, cond, Some, None, Option, refl, sym, ap, subst, arith, eqb-true}
use Rattle.std.specs.Prelude.{option_map, bytes_eq, nat_lt, filter, if◌then◌else◌}
use Rattle.std.specs.List.{list_any}
use Rattle.std.proofs.lemmas.Bool.{ne_eqb, lt-ltb, le-ltb}
use Rattle.profile_text.specs.Digest.{digest_of}
use Rattle.review_policy.specs.declared.act.Effect.{Effect}
use Rattle.review_policy.specs.declared.act.Effect.TheVariants.{Issues, Withdraws}
use Rattle.review_policy.specs.declared.act.RevisionAct.{RevisionAct}
use Rattle.office_words.specs.declared.name.ProfileName.{ProfileName}
use Rattle.office_words.specs.declared.revision.State.{State}
use Rattle.office_words.specs.declared.revision.State.TheVariants.{Open, Closed, Issued, Replaced, Withdrawn}
use Rattle.review_policy.specs.Acts.{has_effect, is_effect}
use Rattle.office_words.specs.declared.row.RevisionRow.{RevisionRow}
use Rattle.office_words.specs.Tables.{is_profile}
use Rattle.office_words.specs.Changes.{after_submission}
use Rattle.office_policy.specs.History.{Event, founded, enrolled, submitted, voted, on_revision, on_profile, History}
use Rattle.office_policy.specs.Revisions.{Submission, submits, issues, withdraws, is_replaced, revision_count, submission_of, revision_of}
use Rattle.office_policy.specs.Lawful.{IsLawfulHistory}
use Rattle.office_policy.proofs.UserFacts.{same_bytes}
use Rattle.office_policy.proofs.RevisionFacts.{count_more, within_last, standing_within}
use Rattle.office_policy.proofs.LawFacts.{Follows, act_follows, allowed_follows}

pub both : (a b : Bool) → (a && b) ≡ true → (a ≡ true) × (b ≡ true)
both true true e = (refl, refl)
both true false e = absurd (cc)
both false b e = absurd (cc)

-- what is false is so beside any other test
pub beside : (a b : Bool) → b ≡ false → (a && b) ≡ false
beside true b is = is
beside false b is = refl

-- names of one profile are the same
pub same_profile : (p q : ProfileName) → is_profile p q ≡ true → p ≡ q
same_profile p q e =
    let parts = both (bytes_eq p.team q.team) (bytes_eq p.profile q.profile) e in
    let team = same_bytes p.team q.team parts.0 in
    let profile = same_bytes p.profile q.profile parts.1 in
    λ i. record { team = team i; profile = profile i }

-- no issue and no withdrawal names the revision
pub record IsUnnamed (h : History) (p : ProfileName) (n : ℕ) : Type 0 where
  pub issues : list_any (issues p n) h ≡ false
  pub withdrawals : list_any (withdraws p n) h ≡ false

-- an event that names a revision up to the last doesn't name one above
unlike : (h : History) (p q : ProfileName) (n k : ℕ) → revision_count h p < n → k ≤ revision_count h q → (is_profile p q && (n == k)) ≡ false
unlike h p q n k above within =
    elim (is_profile p q) as (λ b. is_profile p q ≡ b → (b && (n == k)) ≡ false) [
      | true ↦ λ same. let here : k ≤ revision_count h p = subst (λ x. k ≤ revision_count h x) (sym (same_profile p q same)) within in ne_eqb n k (λ e. absurd (omega arith))
      | false ↦ λ same. refl
    ] refl

-- an act on a revision up to the last has no effect on one above
unnamed_by : (h : History) (p q : ProfileName) (n k : ℕ) (act : RevisionAct) (effect : Effect) (among : Bool) → revision_count h p < n → k ≤ revision_count h q → among ≡ false
    → ((has_effect act effect && is_profile p q && (n == k)) || among) ≡ false
unnamed_by h p q n k act effect among above within none = neither (has_effect act effect) (is_profile p q) (n == k) among (unlike h p q n k above within) none
  where
    neither : (a b c d : Bool) → (b && c) ≡ false → d ≡ false → ((a && b && c) || d) ≡ false
    neither true b c d is none = ap (λ x. x || d) is ∙ none
    neither false b c d is none = none

unnamed_more : (h : History) (e : Event) → Follows h e → (p : ProfileName) (n : ℕ) → revision_count (e ∷ h) p < n → (revision_count h p < n → IsUnnamed h p n) → IsUnnamed (e ∷ h) p n
unnamed_more h (founded x t d l) is p n above before = absurd is
unnamed_more h (enrolled c x t r d) is p n above before = let u = before above in record { issues = u.issues; withdrawals = u.withdrawals }
unnamed_more h (submitted c q t) is p n above before =
    let u = before (fewer (is_profile p q) (revision_count h p) n (subst (λ k. k < n) (count_more p (submitted c q t) h) above)) in
    record { issues = u.issues; withdrawals = u.withdrawals }
  where
    fewer : (b : Bool) (k n : ℕ) → cond b (suc k) k < n → k < n
    fewer true k n more = omega arith
    fewer false k n more = more
unnamed_more h (voted c q k d a) is p n above before = let u = before above in record { issues = u.issues; withdrawals = u.withdrawals }
unnamed_more h (on_revision c act q k) is p n above before =
    let u = before above in
    let within : k ≤ revision_count h q = standing_within h q k (act_follows h c act q k is).there in
    record {
      issues = unnamed_by h p q n k act Issues (list_any (issues p n) h) above within u.issues;
      withdrawals = unnamed_by h p q n k act Withdraws (list_any (withdraws p n) h) above within u.withdrawals;
    }
unnamed_more h (on_profile c act q) is p n above before = let u = before above in record { issues = u.issues; withdrawals = u.withdrawals }

-- no issue and no withdrawal names a revision above the last
pub unnamed_above : (h : History) → IsLawfulHistory h → (p : ProfileName) (n : ℕ) → revision_count h p < n → IsUnnamed h p n
unnamed_above [] lawful p n above = absurd lawful
unnamed_above (founded x t d l ∷ []) lawful p n above = record { issues = refl; withdrawals = refl }
unnamed_above (_ ∷ []) lawful p n above = absurd lawful
unnamed_above (e ∷ f ∷ h) lawful p n above =
    unnamed_more (f ∷ h) e (allowed_follows (f ∷ h) e lawful.0) p n above (unnamed_above (f ∷ h) lawful.1 p n)

-- a state by what holds of a revision: withdrawn, issued, replaced, closed
abbrev pub state_by : Bool → Bool → Bool → Bool → State
state_by w i r c = if w then Withdrawn else if i then (if r then Replaced else Issued) else if c then Closed else Open

-- a later submission closes what is open and leaves the rest
closes : (w i r c : Bool) (n : ℕ) (author text : List ℕ)
    → ◌≡◌ {A = RevisionRow} (record { number = n; author = author; state = state_by w i r true; body = text; digest = digest_of text })
    (after_submission (record { number = n; author = author; state = state_by w i r c; body = text; digest = digest_of text }))
closes true i r c n author text = refl
closes false true true c n author text = refl
closes false true false c n author text = refl
closes false false r true n author text = refl
closes false false r false n author text = refl

-- the row of a new revision
abbrev pub new_row : History → ProfileName → (caller text : List ℕ) → RevisionRow
new_row h p c t = record { number = suc (revision_count h p); author = c; state = Open; body = t; digest = digest_of t }

-- the row of a submission in a history whose last number is this one
abbrev pub row_at : History → ProfileName → ℕ → ℕ → Submission → RevisionRow
row_at h p n last s = record {
  number = n;
  author = s.author;
  state = state_by (list_any (withdraws p n) h) (list_any (issues p n) h) (is_replaced h p n) (nat_lt n last);
  body = s.text;
  digest = digest_of s.text;
}

-- the row of a submission after this is done to a revision: whether to one of its profile, and of its number
abbrev pub row_after : History → ProfileName → ℕ → Effect → (own this : Bool) → Submission → RevisionRow
row_after h p n effect own this s = record {
  number = n;
  author = s.author;
  state =
      state_by
      ((is_effect effect Withdraws && own && this) || list_any (withdraws p n) h)
      ((is_effect effect Issues && own && this) || list_any (issues p n) h)
      ((is_effect effect Issues && own && list_any (issues p n) h) || is_replaced h p n)
      (nat_lt n (revision_count h p));
  body = s.text;
  digest = digest_of s.text;
}

-- a revision that no issue and no withdrawal names is open where it is the last
open_last : (h : History) (p : ProfileName) (n : ℕ) → IsUnnamed h p n → (c t : List ℕ)
    → row_at h p n n (record { author = c; text = t }) ≡ record { number = n; author = c; state = Open; body = t; digest = digest_of t }
open_last h p n u c t = rw (u.withdrawals, u.issues, not_below n) refl
  where
    not_below : (n : ℕ) → nat_lt n n ≡ false
    not_below n = le-ltb n n (omega arith)

-- the revisions up to the last are closed by a submission
closed_earlier : (h : History) (p : ProfileName) (n : ℕ) (s : Option Submission) → submission_of h p n ≡ s
    → option_map (row_at h p n (suc (revision_count h p))) s ≡ option_map after_submission (option_map (row_at h p n (revision_count h p)) s)
closed_earlier h p n None is = refl
closed_earlier h p n (Some s) is =
    let within : n ≤ revision_count h p = within_last h p n (λ none. there none) in
    rw (lt-ltb n (suc (revision_count h p)) (omega arith)) (ap Some (closes (list_any (withdraws p n) h) (list_any (issues p n) h) (is_replaced h p n) (nat_lt n (revision_count h p)) n s.author s.text))
  where
    there : submission_of h p n ≡ None → ⊥
    there none = cc

-- the submission's own profile has the new row, and its others are closed
same_submitted : (h : History) → IsLawfulHistory h → (c : List ℕ) (p : ProfileName) (t : List ℕ) (n : ℕ)
    → option_map (row_at h p n (suc (revision_count h p))) (cond (n == suc (revision_count h p)) (Some (record { author = c; text = t })) (submission_of h p n))
    ≡ cond (n == suc (revision_count h p)) (Some (new_row h p c t)) (option_map after_submission (revision_of h p n))
same_submitted h lawful c p t n =
    elim (n == suc (revision_count h p)) as (λ b. (n == suc (revision_count h p)) ≡ b →
    option_map (row_at h p n (suc (revision_count h p))) (cond b (Some (record { author = c; text = t })) (submission_of h p n))
    ≡ cond b (Some (new_row h p c t)) (option_map after_submission (revision_of h p n))) [
      | true ↦ λ last. new_last (eqb-true n (suc (revision_count h p)) last)
      | false ↦ λ earlier. closed_earlier h p n (submission_of h p n) refl
    ] refl
  where
    new_last : n ≡ suc (revision_count h p) → Some (row_at h p n (suc (revision_count h p)) (record { author = c; text = t })) ≡ Some (new_row h p c t)
    new_last is =
        ap (λ k. Some (row_at h p k (suc (revision_count h p)) (record { author = c; text = t }))) is
        ∙ ap Some (open_last h p (suc (revision_count h p)) (unnamed_above h lawful p (suc (revision_count h p)) (omega arith)) c t)

-- the revisions after a submission
pub revision_submitted : (h : History) → IsLawfulHistory h → (c : List ℕ) (p : ProfileName) (t : List ℕ) (q : ProfileName) (n : ℕ)
    → revision_of (submitted c p t ∷ h) q n ≡ cond (is_profile q p) (cond (n == suc (revision_count h p)) (Some (new_row h p c t)) (option_map after_submission (revision_of h q n))) (revision_of h q n)
revision_submitted h lawful c p t q n =
    elim (is_profile q p) as (λ b. is_profile q p ≡ b →
    option_map (row_at h q n (length (cond b (submitted c p t ∷ filter (submits q) h) (filter (submits q) h)))) (cond (b && (n == suc (revision_count h q))) (Some (record { author = c; text = t })) (submission_of h q n))
    ≡ cond b (cond (n == suc (revision_count h p)) (Some (new_row h p c t)) (option_map after_submission (revision_of h q n))) (revision_of h q n)) [
      | true ↦ λ same. own q (same_profile q p same)
      | false ↦ λ same. refl
    ] refl
  where
    own : (x : ProfileName) → x ≡ p
        → option_map (row_at h x n (suc (revision_count h x))) (cond (n == suc (revision_count h x)) (Some (record { author = c; text = t })) (submission_of h x n))
        ≡ cond (n == suc (revision_count h p)) (Some (new_row h p c t)) (option_map after_submission (revision_of h x n))
    own x is =
        subst (λ y. option_map (row_at h y n (suc (revision_count h y))) (cond (n == suc (revision_count h y)) (Some (record { author = c; text = t })) (submission_of h y n))
        ≡ cond (n == suc (revision_count h p)) (Some (new_row h p c t)) (option_map after_submission (revision_of h y n))) (sym is) (same_submitted h lawful c p t n)
