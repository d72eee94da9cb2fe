-- The revisions of a profile after an issue.
use Rattle.std.proofs.Common.{◌≡◌, ◌==◌, ◌&&◌, ◌||◌, ℕ, List, [], ◌∷◌, Bool, true, false, cond, Some, None, Option, refl, sym, ap, subst, eqb-true}
use Rattle.std.specs.Prelude.{option_map, nat_lt}
use Rattle.std.specs.List.{list_any}
use Rattle.std.proofs.lemmas.Bool.{or_parts}
use Rattle.profile_text.specs.Digest.{digest_of}
use Rattle.review_policy.specs.declared.act.Effect.TheVariants.{Issues}
use Rattle.office_words.specs.declared.name.ProfileName.{ProfileName}
use Rattle.office_words.specs.declared.revision.State.TheVariants.{Issued}
use Rattle.review_policy.specs.Rules.{is_open}
use Rattle.office_words.specs.declared.row.RevisionRow.{RevisionRow}
use Rattle.office_words.specs.Tables.{is_profile}
use Rattle.office_words.specs.Changes.{in_state, after_issue}
use Rattle.office_policy.specs.History.{History}
use Rattle.office_policy.specs.Revisions.{Submission, issues_profile, issues, withdraws, is_replaced, revision_count, submission_of, revision_of, state_in}
use Rattle.office_policy.proofs.StateFacts.{same_profile, state_by, row_after, row_at}

-- one step after another on what may be there is both at once
pub twice : {X Y Z : Type 0} (f : Y → Z) (g : X → Y) (k : X → Z) → ((x : X) → f (g x) ≡ k x) → (o : Option X) → option_map f (option_map g o) ≡ option_map k o
twice f g k same None = refl
twice f g k same (Some x) = ap Some (same x)

-- what was never issued was never replaced
never_replaced : (h : History) (p : ProfileName) (n : ℕ) → list_any (issues p n) h ≡ false → is_replaced h p n ≡ false
never_replaced [] p n never = refl
never_replaced (e ∷ h) p n never =
    let before = (or_parts (issues p n e) (list_any (issues p n) h) never).1 in
    rw (before, never_replaced h p n before) (none (issues_profile p e))
  where
    none : (b : Bool) → ((b && false) || false) ≡ false
    none true = refl
    none false = refl

-- an open revision was neither withdrawn nor issued
open_by : (w i r c : Bool) → is_open (Some (state_by w i r c)) ≡ true → (w ≡ false) × (i ≡ false)
open_by true i r c e = absurd (cc)
open_by false true true c e = absurd (cc)
open_by false true false c e = absurd (cc)
open_by false false r c e = (refl, refl)

-- an issue of another revision replaces what is issued and leaves the rest
replaces : (w i r c : Bool) (n : ℕ) (author text : List ℕ)
    → after_issue (record { number = n; author = author; state = state_by w i r c; body = text; digest = digest_of text })
    ≡ record { number = n; author = author; state = state_by w i (i || r) c; body = text; digest = digest_of text }
replaces true i r c n author text = refl
replaces false true true c n author text = refl
replaces false true false c n author text = refl
replaces false false r true n author text = refl
replaces false false r false n author text = refl

-- an open revision that is issued
now_issued : (h : History) (p : ProfileName) (n : ℕ) (s : Option Submission) → is_open (state_in (option_map (row_at h p n (revision_count h p)) s)) ≡ true
    → option_map (in_state Issued) (option_map (row_at h p n (revision_count h p)) s) ≡ option_map (row_after h p n Issues true true) s
now_issued h p n None still_open = refl
now_issued h p n (Some s) still_open =
    let parts = open_by (list_any (withdraws p n) h) (list_any (issues p n) h) (is_replaced h p n) (nat_lt n (revision_count h p)) still_open in
    rw (parts.0, parts.1, never_replaced h p n parts.1) refl

-- the other revisions of the profile
others_issued : (h : History) (p : ProfileName) (n : ℕ)
    → option_map after_issue (revision_of h p n) ≡ option_map (row_after h p n Issues true false) (submission_of h p n)
others_issued h p n =
    twice after_issue (row_at h p n (revision_count h p)) (row_after h p n Issues true false)
    (λ s. replaces (list_any (withdraws p n) h) (list_any (issues p n) h) (is_replaced h p n) (nat_lt n (revision_count h p)) n s.author s.text)
    (submission_of h p n)

-- the revisions after an issue of an open one
pub issued_rows : (h : History) (p : ProfileName) (n : ℕ) → is_open (state_in (revision_of h p n)) ≡ true → (q : ProfileName) (k : ℕ)
    → cond (is_profile q p) (cond (k == n) (option_map (in_state Issued) (revision_of h q k)) (option_map after_issue (revision_of h q k))) (revision_of h q k)
    ≡ option_map (row_after h q k Issues (is_profile q p) (k == n)) (submission_of h q k)
issued_rows h p n still_open q k =
    elim (is_profile q p) as (λ b. is_profile q p ≡ b
    → cond b (cond (k == n) (option_map (in_state Issued) (revision_of h q k)) (option_map after_issue (revision_of h q k))) (revision_of h q k)
    ≡ option_map (row_after h q k Issues b (k == n)) (submission_of h q k)) [
      | true ↦ λ same. own (same_profile q p same)
      | false ↦ λ other. refl
    ] refl
  where
    own : q ≡ p → cond (k == n) (option_map (in_state Issued) (revision_of h q k)) (option_map after_issue (revision_of h q k))
        ≡ option_map (row_after h q k Issues true (k == n)) (submission_of h q k)
    own same =
        elim (k == n) as (λ b. (k == n) ≡ b → cond b (option_map (in_state Issued) (revision_of h q k)) (option_map after_issue (revision_of h q k))
        ≡ option_map (row_after h q k Issues true b) (submission_of h q k)) [
          | true ↦ λ this. now_issued h q k (submission_of h q k) (here (eqb-true k n this))
          | false ↦ λ other. others_issued h q k
        ] refl
      where
        here : k ≡ n → is_open (state_in (revision_of h q k)) ≡ true
        here this =
            subst (λ x. is_open (state_in (revision_of h x k)) ≡ true) (sym same)
            (subst (λ m. is_open (state_in (revision_of h p m)) ≡ true) (sym this) still_open)
