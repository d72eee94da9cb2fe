-- Each change of the tables of a history makes those of the history with one more event.
use Rattle.std.proofs.Common.{◌≡◌, ◌∙◌, ◌==◌, ◌&&◌, ◌||◌, ℕ, List, [], ◌∷◌, Bool, true, false, cond, Some, Option, refl, sym, ap}
use Rattle.std.specs.Prelude.{option_map, nat_lt, bytes_eq}
use Rattle.std.specs.List.{list_any}
use Rattle.profile_text.specs.Digest.{digest_of}
use Rattle.review_policy.specs.declared.act.Effect.{Effect}
use Rattle.review_policy.specs.declared.act.Effect.TheVariants.{Issues, Withdraws, Adopts}
use Rattle.review_policy.specs.declared.act.ProfileAct.{ProfileAct}
use Rattle.review_policy.specs.declared.act.RevisionAct.{RevisionAct}
use Rattle.office_words.specs.declared.name.ProfileName.{ProfileName}
use Rattle.office_words.specs.declared.revision.State.TheVariants.{Withdrawn}
use Rattle.office_words.specs.declared.role.Role.TheVariants.{Security}
use Rattle.review_policy.specs.Acts.{effect_of, is_effect}
use Rattle.review_policy.specs.Rules.{is_open}
use Rattle.office_words.specs.declared.row.RevisionRow.{RevisionRow}
use Rattle.office_words.specs.Tables.{Tables, Vote, is_profile}
use Rattle.office_words.specs.Lists.{holds_role}
use Rattle.office_words.specs.Changes.{founded_tables, with_user, in_state, with_revision, with_vote, with_issued, with_withdrawn, with_baseline}
use Rattle.office_policy.specs.History.{founded, enrolled, submitted, voted, on_revision, on_profile, History}
use Rattle.office_policy.specs.Users.{user_of}
use Rattle.office_policy.specs.Revisions.{Submission, issues, withdraws, is_replaced, revision_count, submission_of, revision_of, state_in}
use Rattle.office_policy.specs.Votes.{kept_vote, vote_of, kept_vote_of}
use Rattle.office_policy.specs.Baseline.{adoption_of}
use Rattle.office_policy.specs.Holds.{with_act}
use Rattle.office_policy.specs.Lawful.{IsLawfulHistory}
use Rattle.office_policy.specs.TablesOf.{tables_of}
use Rattle.office_policy.proofs.UserFacts.{same_bytes}
use Rattle.office_policy.proofs.LawFacts.{ActAllowed}
use Rattle.office_policy.proofs.StateFacts.{both, state_by, new_row, row_after, revision_submitted}
use Rattle.office_policy.proofs.Issues.{twice, issued_rows}

-- ---- of one row

pub founding_tables : (name team digest : List ℕ) (listed : ℕ)
    → founded_tables (record { name = name; team = team; roles = 1; digest = digest }) listed ≡ tables_of (founded name team digest listed ∷ [])
founding_tables name team digest listed = refl

pub enrolled_tables : (h : History) (c n t : List ℕ) (r : ℕ) (d : List ℕ)
    → with_user (record { name = n; team = t; roles = r; digest = d }) (tables_of h) ≡ tables_of (enrolled c n t r d ∷ h)
enrolled_tables h c n t r d = refl

pub acted_tables : (h : History) (c : List ℕ) (act : ProfileAct) (p : ProfileName) → with_act act p (tables_of h) ≡ tables_of (on_profile c act p ∷ h)
acted_tables h c act p = refl

-- ---- votes

module _ (h : History) (c : List ℕ) (p : ProfileName) (n : ℕ) (d : List ℕ) (a : Bool) where
  -- what is kept of the vote
  abbrev new_vote : Vote
  new_vote = record { approves = a; security = holds_role (user_of h c) Security }

  kept_voted : (q : ProfileName) (k : ℕ) (name : List ℕ)
      → cond (is_profile q p && (k == n) && bytes_eq name c) (Some new_vote) (kept_vote_of h q k name) ≡ kept_vote_of (voted c p n d a ∷ h) q k name
  kept_voted q k name =
      elim (is_profile q p && (k == n) && bytes_eq name c) as (λ b. (is_profile q p && (k == n) && bytes_eq name c) ≡ b
      → cond b (Some new_vote) (kept_vote_of h q k name)
      ≡ option_map (kept_vote name) (cond b (Some (record { approves = a; digest = d; before = h })) (vote_of h q k name))) [
        | true ↦ λ here.
            let voter = same_bytes name c (both (is_profile q p && (k == n)) (bytes_eq name c) here).1 in
            λ i. Some (record { approves = a; security = holds_role (user_of h (sym voter i)) Security })
        | false ↦ λ other. refl
      ] refl

  pub voted_tables : with_vote p n c (record { approves = a; security = holds_role (user_of h c) Security }) (tables_of h) ≡ tables_of (voted c p n d a ∷ h)
  voted_tables = λ i. record (tables_of h) { votes = λ q k name. kept_voted q k name i }

-- ---- revisions

-- the tables of a history with these revisions in the place of its own
abbrev with_rows : History → (ProfileName → ℕ → Option RevisionRow) → Tables
with_rows h rows = record (tables_of h) { revisions = rows }

-- a withdrawn revision, by its submission
abbrev withdrawn_row : ℕ → Submission → RevisionRow
withdrawn_row n s = record { number = n; author = s.author; state = Withdrawn; body = s.text; digest = digest_of s.text }

withdrawn_rows : (h : History) (p : ProfileName) (n : ℕ) (q : ProfileName) (k : ℕ)
    → cond (is_profile q p && (k == n)) (option_map (in_state Withdrawn) (revision_of h q k)) (revision_of h q k)
    ≡ option_map (row_after h q k Withdraws (is_profile q p) (k == n)) (submission_of h q k)
withdrawn_rows h p n q k =
    elim (is_profile q p && (k == n)) as (λ b. cond b (option_map (in_state Withdrawn) (revision_of h q k)) (revision_of h q k)
    ≡ option_map (λ s. record {
      number = k;
      author = s.author;
      state = state_by (b || list_any (withdraws q k) h) (list_any (issues q k) h) (is_replaced h q k) (nat_lt k (revision_count h q));
      body = s.text;
      digest = digest_of s.text;
    }) (submission_of h q k)) [
      | true ↦ twice (in_state Withdrawn) _ (withdrawn_row k) (λ s. refl) (submission_of h q k)
      | false ↦ refl
    ]

pub submitted_tables : (h : History) → IsLawfulHistory h → (c : List ℕ) (p : ProfileName) (text : List ℕ)
    → with_revision p (new_row h p c text) (tables_of h) ≡ tables_of (submitted c p text ∷ h)
submitted_tables h lawful c p text = λ i. with_rows h (λ q k. sym (revision_submitted h lawful c p text q k) i)

-- ---- what is done to a revision, by its effect

-- the tables of a history with an act of this effect
abbrev pub tables_after : History → Effect → ProfileName → ℕ → Tables
tables_after h effect p n = record (tables_of h) {
  revisions = λ q k. option_map (row_after h q k effect (is_profile q p) (k == n)) (submission_of h q k);
  baselines = λ team. cond (is_effect effect Adopts && bytes_eq team p.team) (Some (record { profile = p.profile; number = n })) (adoption_of h team);
}

issued_after : (h : History) (p : ProfileName) (n : ℕ) → is_open (state_in (revision_of h p n)) ≡ true → with_issued p n (tables_of h) ≡ tables_after h Issues p n
issued_after h p n still_open = λ i. with_rows h (λ q k. issued_rows h p n still_open q k i)

withdrawn_after : (h : History) (p : ProfileName) (n : ℕ) → with_withdrawn p n (tables_of h) ≡ tables_after h Withdraws p n
withdrawn_after h p n = λ i. with_rows h (λ q k. withdrawn_rows h p n q k i)

adopted_after : (h : History) (p : ProfileName) (n : ℕ) → with_baseline p n (tables_of h) ≡ tables_after h Adopts p n
adopted_after h p n = refl

-- what an effect makes of tables
abbrev pub with_effect : Effect → ProfileName → ℕ → Tables → Tables
with_effect Issues p n t = with_issued p n t
with_effect Withdraws p n t = with_withdrawn p n t
with_effect Adopts p n t = with_baseline p n t

pub effect_tables : (h : History) (effect : Effect) (p : ProfileName) (n : ℕ) → ActAllowed h effect p n → with_effect effect p n (tables_of h) ≡ tables_after h effect p n
effect_tables h Issues p n may = issued_after h p n may.found
effect_tables h Withdraws p n may = withdrawn_after h p n
effect_tables h Adopts p n may = adopted_after h p n

-- ---- each act of an effect

-- the tables with an act are those with its effect
by_effect : (h : History) (c : List ℕ) (act : RevisionAct) (effect : Effect) (p : ProfileName) (n : ℕ) → effect_of act ≡ effect
    → tables_after h effect p n ≡ tables_of (on_revision c act p n ∷ h)
by_effect h c act effect p n is = ap (λ x. tables_after h x p n) (sym is)

pub issued_tables : (h : History) (c : List ℕ) (act : RevisionAct) (p : ProfileName) (n : ℕ) → effect_of act ≡ Issues → is_open (state_in (revision_of h p n)) ≡ true
    → with_issued p n (tables_of h) ≡ tables_of (on_revision c act p n ∷ h)
issued_tables h c act p n is still_open = issued_after h p n still_open ∙ by_effect h c act Issues p n is

pub withdrawn_tables : (h : History) (c : List ℕ) (act : RevisionAct) (p : ProfileName) (n : ℕ) → effect_of act ≡ Withdraws
    → with_withdrawn p n (tables_of h) ≡ tables_of (on_revision c act p n ∷ h)
withdrawn_tables h c act p n is = withdrawn_after h p n ∙ by_effect h c act Withdraws p n is

pub adopted_tables : (h : History) (c : List ℕ) (act : RevisionAct) (p : ProfileName) (n : ℕ) → effect_of act ≡ Adopts
    → with_baseline p n (tables_of h) ≡ tables_of (on_revision c act p n ∷ h)
adopted_tables h c act p n is = adopted_after h p n ∙ by_effect h c act Adopts p n is
