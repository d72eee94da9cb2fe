-- Laws of histories.
use Rattle.std.proofs.Common.{◌≡◌, ◌≢◌, ◌∙◌, ◌<◌, ◌==◌, ◌&&◌, ◌||◌, ℕ, zero, suc, List, [], ◌∷◌, Bool, true, false, not, cond, Some, None, Option, refl, sym, ap, subst, arith, eqb-true}
use Rattle.std.specs.Prelude.{is_some, option_map, nat_lt, bytes_eq}
use Rattle.std.specs.List.{list_any}
use Rattle.std.proofs.lemmas.Bool.{ne_eqb, lt-ltb}
use Rattle.review_policy.specs.declared.act.Effect.TheVariants.{Issues}
use Rattle.office_words.specs.declared.name.ProfileName.{ProfileName}
use Rattle.office_words.specs.declared.revision.State.TheVariants.{Open}
use Rattle.review_policy.specs.Acts.{has_effect}
use Rattle.review_policy.specs.Rules.{is_issued}
use Rattle.office_words.specs.declared.row.UserRow.{UserRow}
use Rattle.office_words.specs.Tables.{is_profile}
use Rattle.office_policy.specs.History.{Event, founded, enrolled, submitted, on_revision, History}
use Rattle.office_policy.specs.Users.{user_of}
use Rattle.office_policy.specs.Revisions.{Submission, issues, withdraws, is_replaced, revision_count, submission_of, revision_of, state_in, last_issue}
use Rattle.office_policy.specs.Facts.{is_elsewhere}
use Rattle.office_policy.specs.Lawful.{IsLawfulHistory}
use Rattle.office_policy.specs.Laws.{KeepsTeams, KeepsSubmissions, NumbersRun, OpenIsLast, OneIssued}
use Rattle.office_policy.proofs.UserFacts.{same_bytes}
use Rattle.office_policy.proofs.RevisionFacts.{some_within, within_last}
use Rattle.office_policy.proofs.StateFacts.{row_at, state_by}
use Rattle.office_policy.proofs.LawFacts.{Follows, allowed_follows}

-- a user that isn't elsewhere is of the team
here : (u : UserRow) (team : List ℕ) → is_elsewhere (Some u) team ≡ false → team ≡ u.team
here u team e =
    elim (bytes_eq u.team team) as (λ b. bytes_eq u.team team ≡ b → not b ≡ false → team ≡ u.team) [
      | true ↦ λ same e. sym (same_bytes u.team team same)
      | false ↦ λ same e. absurd (cc)
    ] refl e

teams_more : (h : History) (e : Event) → Follows h e → KeepsTeams h e
teams_more h (founded n t d l) is name u v before after = absurd is
teams_more h (enrolled c n t r d) is name u v before after =
    elim (bytes_eq name n) as (λ b. bytes_eq name n ≡ b → cond b (Some (record { name = n; team = t; roles = r; digest = d })) (user_of h name) ≡ Some v → v.team ≡ u.team) [
      | true ↦ λ same at.
          let row : ◌≡◌ {A = UserRow} (record { name = n; team = t; roles = r; digest = d }) v = cc in
          let known : user_of h n ≡ Some u = ap (user_of h) (sym (same_bytes name n same)) ∙ before in
          sym (ap (λ x. x.team) row) ∙ here u t (subst (λ x. is_elsewhere x t ≡ false) known is.same_team)
      | false ↦ λ same at. let row : v ≡ u = cc in ap (λ x. x.team) row
    ] refl after
teams_more h _ is name u v before after = let row : v ≡ u = cc in ap (λ x. x.team) row

pub teams_kept : (h : History) (e : Event) → IsLawfulHistory (e ∷ h) → KeepsTeams h e
teams_kept [] e lawful name u v before after = absurd (cc)
teams_kept (f ∷ h) e lawful name u v before after = teams_more (f ∷ h) e (allowed_follows (f ∷ h) e lawful.0) name u v before after

there : (o : Option Submission) (s : Submission) → o ≡ Some s → o ≢ None
there o s e none = cc

pub submissions_kept : (h : History) (e : Event) → KeepsSubmissions h e
submissions_kept h (submitted c q t) p n s is =
    let within = within_last h p n (there (submission_of h p n) s is) in
    elim (is_profile p q) as (λ b. cond (b && (n == suc (revision_count h p))) (Some (record { author = c; text = t })) (submission_of h p n) ≡ Some s) [
      | true ↦ rw (ne_eqb n (suc (revision_count h p)) (λ e. absurd (omega arith))) is
      | false ↦ is
    ]
submissions_kept h _ p n s is = is

none_at_zero : (h : History) (p : ProfileName) → submission_of h p 0 ≡ None
none_at_zero [] p = refl
none_at_zero (submitted c q t ∷ h) p =
    elim (is_profile p q) as (λ b. cond (b && (0 == suc (revision_count h p))) (Some (record { author = c; text = t })) (submission_of h p 0) ≡ None) [
      | true ↦ rw (ne_eqb 0 (suc (revision_count h p)) (λ e. absurd (omega arith))) (none_at_zero h p)
      | false ↦ none_at_zero h p
    ]
none_at_zero (_ ∷ h) p = none_at_zero h p

pub numbers : (h : History) (p : ProfileName) → NumbersRun h p
numbers h p n = (λ some. (positive n some, within_last h p n (λ none. absurd (gone none some))), λ within. some_within h p n within.0 within.1)
  where
    gone : submission_of h p n ≡ None → is_some (submission_of h p n) ≡ true → ⊥
    gone none some = let e = rw none at some in cc

    positive : (n : ℕ) → is_some (submission_of h p n) ≡ true → 0 < n
    positive zero some = let e = rw (none_at_zero h p) at some in absurd (cc)
    positive (suc n) some = omega arith

-- a revision that is not the last is not open
not_open : (w i r : Bool) → state_by w i r true ≢ Open
not_open true i r e = cc
not_open false true true e = cc
not_open false true false e = cc
not_open false false r e = cc

pub open_last : (h : History) (p : ProfileName) → OpenIsLast h p
open_last h p n r is is_open = by_submission (submission_of h p n) refl is
  where
    by_submission : (s : Option Submission) → submission_of h p n ≡ s → option_map (row_at h p n (revision_count h p)) s ≡ Some r → n ≡ revision_count h p
    by_submission None found row = absurd (cc)
    by_submission (Some s) found row =
        let within = within_last h p n (there (submission_of h p n) s found) in
        let same : row_at h p n (revision_count h p) s ≡ r = cc in
        omega (arith, λ (earlier : n < revision_count h p). earlier_open (ap (λ x. x.state) same ∙ is_open) earlier)
      where
        earlier_open : (row_at h p n (revision_count h p) s).state ≡ Open → n < revision_count h p → ⊥
        earlier_open e earlier =
            not_open (list_any (withdraws p n) h) (list_any (issues p n) h) (is_replaced h p n)
            (rw (lt-ltb n (revision_count h p) earlier) at e)

-- the newest issue names a revision that was issued and not since replaced
newest_issue : (h : History) (p : ProfileName) (n : ℕ) → list_any (issues p n) h ≡ true → is_replaced h p n ≡ false → last_issue h p ≡ Some n
newest_issue [] p n was last = absurd (cc)
newest_issue (on_revision c act q m ∷ h) p n was last = by_issue (has_effect act Issues && is_profile p q) (n == m) (list_any (issues p n) h) (is_replaced h p n) (newest_issue h p n) refl was last
  where
    by_issue : (b x a r : Bool) → (a ≡ true → r ≡ false → last_issue h p ≡ Some n) → (n == m) ≡ x → ((b && x) || a) ≡ true → ((b && a) || r) ≡ false → cond b (Some m) (last_issue h p) ≡ Some n
    by_issue true x true r before named was last = absurd (cc)
    by_issue true true false r before named was last = ap Some (sym (eqb-true n m named))
    by_issue true false false r before named was last = absurd (cc)
    by_issue false x a r before named was last = before was last
newest_issue (_ ∷ h) p n was last = newest_issue h p n was last

pub issued_by : (w i r c : Bool) → is_issued (Some (state_by w i r c)) ≡ true → (i ≡ true) × (r ≡ false)
issued_by true i r c e = absurd (cc)
issued_by false true true c e = absurd (cc)
issued_by false true false c e = (refl, refl)
issued_by false false r true e = absurd (cc)
issued_by false false r false e = absurd (cc)

-- the number of a revision that is issued now is that of the newest issue
pub newest : (h : History) (p : ProfileName) (n : ℕ) → is_issued (state_in (revision_of h p n)) ≡ true → last_issue h p ≡ Some n
newest h p n is = by_submission (submission_of h p n) is
  where
    by_submission : (s : Option Submission) → is_issued (state_in (option_map (row_at h p n (revision_count h p)) s)) ≡ true → last_issue h p ≡ Some n
    by_submission None e = absurd (cc)
    by_submission (Some s) e =
        let parts = issued_by (list_any (withdraws p n) h) (list_any (issues p n) h) (is_replaced h p n) (nat_lt n (revision_count h p)) e in
        newest_issue h p n parts.0 parts.1

pub one_issued : (h : History) (p : ProfileName) → OneIssued h p
one_issued h p n k n_issued k_issued = let a = newest h p n n_issued in let b = newest h p k k_issued in cc
