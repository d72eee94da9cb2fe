-- Tables show the last event of a lawful history; and where they show an event that is allowed next, it changes nothing in them.
use Rattle.std.proofs.Common.{◌≡◌, ◌∙◌, ◌<◌, ◌==◌, ◌&&◌, ◌⊎◌, inl, inr, ℕ, suc, List, [], ◌∷◌, Bool, true, false, cond, Some, None, Option, refl, sym, ap, subst, arith, eqb-true, eq-eqb, ne_eqb}
use Rattle.std.specs.Prelude.{option_map, is_none, bytes_eq}
use Rattle.review_policy.specs.declared.act.Effect.{Effect}
use Rattle.review_policy.specs.declared.act.Effect.TheVariants.{Issues, Withdraws, Adopts}
use Rattle.office_words.specs.declared.name.ProfileName.{ProfileName}
use Rattle.office_words.specs.declared.revision.State.{State}
use Rattle.office_words.specs.declared.revision.State.TheVariants.{Open, Issued, Withdrawn}
use Rattle.office_words.specs.declared.role.Role.TheVariants.{Security}
use Rattle.review_policy.specs.Acts.{effect_of, holds}
use Rattle.review_policy.specs.Rules.{is_open, is_standing}
use Rattle.office_words.specs.declared.row.UserRow.{UserRow}
use Rattle.office_words.specs.declared.row.RevisionRow.{RevisionRow}
use Rattle.office_words.specs.Tables.{Tables, Vote, Baseline, is_profile}
use Rattle.office_words.specs.Lists.{holds_role}
use Rattle.office_words.specs.Changes.{in_state, after_submission, after_issue, with_revision, with_issued, with_withdrawn}
use Rattle.office_policy.specs.History.{Event, founded, enrolled, submitted, voted, on_revision, on_profile, History}
use Rattle.office_policy.specs.Users.{user_of}
use Rattle.office_policy.specs.Revisions.{revision_of, revision_count, last_revision, if_open, state_in}
use Rattle.office_policy.specs.Votes.{kept_vote, vote_of, kept_vote_of}
use Rattle.office_policy.specs.Holds.{is_held}
use Rattle.office_policy.specs.Baseline.{adoption_of}
use Rattle.office_policy.specs.Facts.{is_text_of}
use Rattle.office_policy.specs.Lawful.{IsLawfulHistory}
use Rattle.office_policy.specs.TablesOf.{tables_of}
use Rattle.office_policy.specs.ShowsEvent.{LastIsOpen, Shows, ShowsEffect}
use Rattle.office_policy.proofs.UserFacts.{same_bytes, bytes_same}
use Rattle.office_policy.proofs.LawFacts.{ActAllowed, Follows, SubmitAllowed, act_follows, allowed_follows}
use Rattle.office_policy.proofs.RevisionFacts.{none_above, last_is}
use Rattle.office_policy.proofs.StateFacts.{both, same_profile, new_row, row_at}
use Rattle.office_policy.proofs.EventFacts.{voted_tables, submitted_tables, with_effect, tables_after, effect_tables}

-- ---- keys

profile_itself : (p : ProfileName) → is_profile p p ≡ true
profile_itself p = λ i. bytes_same p.team p.team refl i && bytes_same p.profile p.profile refl i

put_at : {X : Type 0} (b : Bool) (new old : X) → b ≡ true → cond b new old ≡ new
put_at b new old here = subst (λ x. cond x new old ≡ new) (sym here) refl

left_at : {X : Type 0} (b : Bool) (new old : X) → b ≡ false → cond b new old ≡ old
left_at b new old other = subst (λ x. cond x new old ≡ old) (sym other) refl

-- what is there already is put there again
same_at : {X : Type 0} (b : Bool) (new old : X) → (b ≡ true → old ≡ new) → cond b new old ≡ old
same_at true new old here = sym (here refl)
same_at false new old here = refl

-- ---- the last event is shown

-- no revision is above the last
pub none_over : (h : History) (p : ProfileName) (n : ℕ) → revision_count h p < n → revision_of h p n ≡ None
none_over h p n above = ap (option_map (row_at h p n (revision_count h p))) (none_above h p n above)

new_is_last : (h : History) (c : List ℕ) (p : ProfileName) (t : List ℕ) → LastIsOpen (with_revision p (new_row h p c t) (tables_of h)) p c t
new_is_last h c p t = record { row = new_row h p c t; last = (there, above); still_open = refl; author = refl; text = refl }
  where
    rows : ℕ → Option RevisionRow
    rows n = cond (n == suc (revision_count h p)) (Some (new_row h p c t)) (option_map after_submission (revision_of h p n))

    there : cond (is_profile p p) (rows (suc (revision_count h p))) (revision_of h p (suc (revision_count h p))) ≡ Some (new_row h p c t)
    there =
        put_at (is_profile p p) (rows (suc (revision_count h p))) _ (profile_itself p)
        ∙ put_at (suc (revision_count h p) == suc (revision_count h p)) _ _ (eq-eqb (suc (revision_count h p)) (suc (revision_count h p)) refl)

    above : (n : ℕ) → suc (revision_count h p) < n → cond (is_profile p p) (rows n) (revision_of h p n) ≡ None
    above n more =
        put_at (is_profile p p) (rows n) _ (profile_itself p)
        ∙ left_at (n == suc (revision_count h p)) _ _ (ne_eqb n (suc (revision_count h p)) (λ e. absurd (omega arith)))
        ∙ ap (option_map after_submission) (none_over h p n (omega arith))

new_is_kept : (h : History) (c : List ℕ) (p : ProfileName) (n : ℕ) (d : List ℕ) (a : Bool)
    → kept_vote_of (voted c p n d a ∷ h) p n c ≡ Some (record { approves = a; security = holds_role (user_of h c) Security })
new_is_kept h c p n d a =
    subst (λ b. option_map (kept_vote c) (cond b (Some (record { approves = a; digest = d; before = h })) (vote_of h p n c))
    ≡ Some (record { approves = a; security = holds_role (user_of h c) Security })) (sym here) refl
  where
    here : (is_profile p p && (n == n) && bytes_eq c c) ≡ true
    here = λ i. profile_itself p i && eq-eqb n n refl i && bytes_same c c refl i

-- a revision that is put in a state is in it
state_put : (s : State) (r : Option RevisionRow) → is_none (state_in r) ≡ false → state_in (option_map (in_state s) r) ≡ Some s
state_put s None there = absurd (cc)
state_put s (Some row) there = refl

issue_is_shown : (h : History) (p : ProfileName) (n : ℕ) → is_none (state_in (revision_of h p n)) ≡ false → ShowsEffect (with_issued p n (tables_of h)) Issues p n
issue_is_shown h p n there = ap state_in here ∙ state_put Issued (revision_of h p n) there
  where
    here : cond (is_profile p p) (cond (n == n) (option_map (in_state Issued) (revision_of h p n)) (option_map after_issue (revision_of h p n))) (revision_of h p n)
        ≡ option_map (in_state Issued) (revision_of h p n)
    here = put_at (is_profile p p) _ _ (profile_itself p) ∙ put_at (n == n) _ _ (eq-eqb n n refl)

withdrawal_is_shown : (h : History) (p : ProfileName) (n : ℕ) → is_none (state_in (revision_of h p n)) ≡ false → ShowsEffect (with_withdrawn p n (tables_of h)) Withdraws p n
withdrawal_is_shown h p n there = ap state_in here ∙ state_put Withdrawn (revision_of h p n) there
  where
    here : cond (is_profile p p && (n == n)) (option_map (in_state Withdrawn) (revision_of h p n)) (revision_of h p n) ≡ option_map (in_state Withdrawn) (revision_of h p n)
    here = put_at (is_profile p p && (n == n)) _ _ (λ i. profile_itself p i && eq-eqb n n refl i)

-- each effect is shown by what it makes of tables
effect_is_shown : (h : History) (effect : Effect) (p : ProfileName) (n : ℕ) → is_none (state_in (revision_of h p n)) ≡ false → ShowsEffect (with_effect effect p n (tables_of h)) effect p n
effect_is_shown h Issues p n there = issue_is_shown h p n there
effect_is_shown h Withdraws p n there = withdrawal_is_shown h p n there
effect_is_shown h Adopts p n there = put_at (bytes_eq p.team p.team) _ _ (bytes_same p.team p.team refl)

effect_shown_after : (h : History) (effect : Effect) (p : ProfileName) (n : ℕ) → ActAllowed h effect p n → ShowsEffect (tables_after h effect p n) effect p n
effect_shown_after h effect p n may = subst (λ x. ShowsEffect x effect p n) (effect_tables h effect p n may) (effect_is_shown h effect p n may.there)

shown_after : (h : History) → IsLawfulHistory h → (e : Event) → Follows h e → Shows (tables_of (e ∷ h)) e
shown_after h lawful (founded n t d l) is = absurd is
shown_after h lawful (enrolled c n t r d) is = put_at (bytes_eq n n) _ _ (bytes_same n n refl)
shown_after h lawful (submitted c p t) is = subst (λ x. LastIsOpen x p c t) (submitted_tables h lawful c p t) (new_is_last h c p t)
shown_after h lawful (voted c p n d a) is = new_is_kept h c p n d a
shown_after h lawful (on_revision c act p n) is = effect_shown_after h (effect_of act) p n (act_follows h c act p n is)
shown_after h lawful (on_profile c act p) is = put_at (is_profile p p) (holds act) (is_held h p) (profile_itself p)

pub last_shown : (h : History) (e : Event) → IsLawfulHistory (e ∷ h) → Shows (tables_of (e ∷ h)) e
last_shown [] (founded n t d l) lawful = (put_at (bytes_eq n n) _ _ (bytes_same n n refl), refl)
last_shown [] _ lawful = absurd lawful
last_shown (f ∷ h) e lawful = shown_after (f ∷ h) lawful.1 e (allowed_follows (f ∷ h) e lawful.0)

-- ---- what is shown before it happens changes nothing

false_is_true : false ≡ true → ⊥
false_is_true e = cc

nobody : (n : List ℕ) (u : UserRow) → user_of [] n ≡ Some u → ⊥
nobody n u e = cc

same_row : (a b : RevisionRow) → Some a ≡ Some b → a ≡ b
same_row a b e = cc

-- the last revision that is shown is that of the history
pub shown_row : (h : History) (p : ProfileName) (c t : List ℕ) (row : RevisionRow) → last_revision h p ≡ Some row → LastIsOpen (tables_of h) p c t
    → (row.state ≡ Open) × (row.author ≡ c) × (row.body ≡ t)
shown_row h p c t row is shown =
    let same = same_row row shown.row (sym is ∙ last_is h p (Some shown.row) shown.last) in
    (ap (λ r. r.state) same ∙ shown.still_open, ap (λ r. r.author) same ∙ shown.author, ap (λ r. r.body) same ∙ shown.text)

-- the open text isn't handed in again
not_again : (h : History) (c : List ℕ) (p : ProfileName) (t : List ℕ) → SubmitAllowed h c p t → LastIsOpen (tables_of h) p c t → ⊥
not_again h c p t is shown =
    let last = last_is h p (Some shown.row) shown.last in
    false_is_true (sym (subst (λ r. is_text_of (Some t) (if_open r) ≡ false) last is.fresh) ∙ again)
  where
    again : is_text_of (Some t) (if_open (Some shown.row)) ≡ true
    again =
        subst (λ b. is_text_of (Some t) (cond b (Some shown.row) None) ≡ true) (sym (ap (λ s. is_open (Some s)) shown.still_open)) (bytes_same t shown.row.body (sym shown.text))

same_users : (h : History) (c n t : List ℕ) (r : ℕ) (d : List ℕ) → Shows (tables_of h) (enrolled c n t r d) → tables_of (enrolled c n t r d ∷ h) ≡ tables_of h
same_users h c n t r d shown = λ i. record (tables_of h) { users = λ name. users name i }
  where
    row : UserRow
    row = record { name = n; team = t; roles = r; digest = d }

    users : (name : List ℕ) → cond (bytes_eq name n) (Some row) (user_of h name) ≡ user_of h name
    users name = same_at (bytes_eq name n) (Some row) (user_of h name) (λ same. ap (user_of h) (same_bytes name n same) ∙ shown)

pub same_votes : (h : History) (c : List ℕ) (p : ProfileName) (n : ℕ) (d : List ℕ) (a : Bool) → Shows (tables_of h) (voted c p n d a) → tables_of (voted c p n d a ∷ h) ≡ tables_of h
same_votes h c p n d a shown = sym (voted_tables h c p n d a) ∙ (λ i. record (tables_of h) { votes = λ q k name. votes q k name i })
  where
    vote : Vote
    vote = record { approves = a; security = holds_role (user_of h c) Security }

    votes : (q : ProfileName) (k : ℕ) (name : List ℕ) → cond (is_profile q p && (k == n) && bytes_eq name c) (Some vote) (kept_vote_of h q k name) ≡ kept_vote_of h q k name
    votes q k name = same_at (is_profile q p && (k == n) && bytes_eq name c) (Some vote) (kept_vote_of h q k name) (λ here.
        let parts = both (is_profile q p && (k == n)) (bytes_eq name c) here in
        let of_revision = both (is_profile q p) (k == n) parts.0 in
        (λ i. kept_vote_of h (same_profile q p of_revision.0 i) (eqb-true k n of_revision.1 i) (same_bytes name c parts.1 i)) ∙ shown)

same_baselines : (h : History) (p : ProfileName) (n : ℕ) → ShowsEffect (tables_of h) Adopts p n → tables_after h Adopts p n ≡ tables_of h
same_baselines h p n shown = λ i. record (tables_of h) { baselines = λ team. baselines team i }
  where
    baseline : Baseline
    baseline = record { profile = p.profile; number = n }

    baselines : (team : List ℕ) → cond (bytes_eq team p.team) (Some baseline) (adoption_of h team) ≡ adoption_of h team
    baselines team = same_at (bytes_eq team p.team) (Some baseline) (adoption_of h team) (λ same. ap (adoption_of h) (same_bytes team p.team same) ∙ shown)

same_holds : (h : History) (p : ProfileName) (b : Bool) → is_held h p ≡ b → (q : ProfileName) → cond (is_profile q p) b (is_held h q) ≡ is_held h q
same_holds h p b shown q = same_at (is_profile q p) b (is_held h q) (λ same. ap (is_held h) (same_profile q p same) ∙ shown)

same_after : (h : History) (effect : Effect) (p : ProfileName) (n : ℕ) → ActAllowed h effect p n → ShowsEffect (tables_of h) effect p n → tables_after h effect p n ≡ tables_of h
same_after h Issues p n may shown = absurd (false_is_true (sym (ap is_open shown) ∙ may.found))
same_after h Withdraws p n may shown = absurd (false_is_true (sym (ap is_standing shown) ∙ may.found))
same_after h Adopts p n may shown = same_baselines h p n shown

unchanged : (h : History) (e : Event) → Follows h e → Shows (tables_of h) e → tables_of (e ∷ h) ≡ tables_of h
unchanged h (founded n t d l) is shown = absurd is
unchanged h (enrolled c n t r d) is shown = same_users h c n t r d shown
unchanged h (submitted c p t) is shown = absurd (not_again h c p t is shown)
unchanged h (voted c p n d a) is shown = same_votes h c p n d a shown
unchanged h (on_revision c act p n) is shown = same_after h (effect_of act) p n (act_follows h c act p n is) shown
unchanged h (on_profile c act p) is shown = λ i. record (tables_of h) { holds = λ q. same_holds h p (holds act) shown q i }

pub shown_unchanged : (h : History) (e : Event) → IsLawfulHistory (e ∷ h) → Shows (tables_of h) e → tables_of (e ∷ h) ≡ tables_of h
shown_unchanged [] (founded n t d l) lawful shown = absurd (nobody n _ shown.0)
shown_unchanged [] _ lawful shown = absurd lawful
shown_unchanged (f ∷ h) e lawful shown = unchanged (f ∷ h) e (allowed_follows (f ∷ h) e lawful.0) shown

-- ---- both

module _ (h : History) (e : Event) (t : Tables) (lawful : IsLawfulHistory (e ∷ h)) where
  -- of tables before or after the event, those that show it are those after it
  pub after_shown : (t ≡ tables_of h) ⊎ (t ≡ tables_of (e ∷ h)) → Shows t e → t ≡ tables_of (e ∷ h)
  after_shown (inl is) shown = is ∙ sym (shown_unchanged h e lawful (subst (λ x. Shows x e) is shown))
  after_shown (inr is) shown = is

  -- and those that don't are those before it
  pub before_shown : (t ≡ tables_of h) ⊎ (t ≡ tables_of (e ∷ h)) → (Shows t e → ⊥) → t ≡ tables_of h
  before_shown (inl is) hidden = is
  before_shown (inr is) hidden = absurd (hidden (subst (λ x. Shows x e) (sym is) (last_shown h e lawful)))
