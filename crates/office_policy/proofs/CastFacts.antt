-- A standing vote on the last revision of a profile, as it was cast.
use Rattle.std.proofs.Common.{◌≡◌, ◌∙◌, ◌≤◌, ◌==◌, ◌&&◌, ◌||◌, ℕ, suc, List, [], ◌∷◌, ◌++◌, Bool, true, false, cond, Some, None, Option, refl, sym, ap, subst, arith, eqb-true}
use Rattle.std.specs.Prelude.{is_none, bytes_eq}
use Rattle.std.specs.List.{list_any}
use Rattle.office_words.specs.declared.name.ProfileName.{ProfileName}
use Rattle.office_words.specs.declared.revision.State.{State}
use Rattle.review_policy.specs.Rules.{is_open}
use Rattle.office_words.specs.Tables.{is_profile}
use Rattle.office_policy.specs.History.{Event, founded, enrolled, submitted, voted, on_revision, on_profile, History}
use Rattle.office_policy.specs.Revisions.{submits, submission_of, revision_of, revision_count, is_author, state_in}
use Rattle.office_policy.specs.Votes.{CastVote, vote_of}
use Rattle.office_policy.specs.Lawful.{IsLawfulHistory}
use Rattle.office_policy.proofs.UserFacts.{same_bytes}
use Rattle.office_policy.proofs.RevisionFacts.{count_more, standing_within}
use Rattle.office_policy.proofs.StateFacts.{both, same_profile}
use Rattle.office_policy.proofs.LawFacts.{Follows, VoteAllowed, allowed_follows}

-- the vote is an event of the history, allowed on the events before it, and nothing of the profile was submitted since
pub record IsCastOn (h : History) (p : ProfileName) (n : ℕ) (name : List ℕ) (v : CastVote) : Type 0 where
  pub newer : History
  pub cast : h ≡ newer ++ voted name p n v.digest v.approves ∷ v.before
  pub none_since : list_any (submits p) newer ≡ false
  pub allowed : VoteAllowed v.before name p n v.digest

-- a vote is on a revision that is there, and on the last one nothing was submitted since
pub record IsVoted (h : History) (p : ProfileName) (n : ℕ) (name : List ℕ) (v : CastVote) : Type 0 where
  pub within : n ≤ revision_count h p
  pub on_last : n ≡ revision_count h p → IsCastOn h p n name v

-- one more event that submits nothing of the profile
cast_before : (h : History) (e : Event) (p : ProfileName) (n : ℕ) (name : List ℕ) (v : CastVote) → submits p e ≡ false → IsCastOn h p n name v → IsCastOn (e ∷ h) p n name v
cast_before h e p n name v other c = record { newer = e ∷ c.newer; cast = ap (λ k. e ∷ k) c.cast; none_since = rw other c.none_since; allowed = c.allowed }

there_open : (o : Option State) → is_open o ≡ true → is_none o ≡ false
there_open None is = absurd (cc)
there_open (Some s) is = refl

-- the vote that was just cast
cast_now : (h : History) (c : List ℕ) (q : ProfileName) (m : ℕ) (d : List ℕ) (a : Bool) → VoteAllowed h c q m d → (p : ProfileName) (n : ℕ) (name : List ℕ) (v : CastVote)
    → q ≡ p → m ≡ n → c ≡ name → ◌≡◌ {A = CastVote} (record { approves = a; digest = d; before = h }) v → IsVoted (voted c q m d a ∷ h) p n name v
cast_now h c q m d a is p n name v same_p same_n same_name same_v =
    subst (λ x. IsVoted (voted c q m d a ∷ h) x n name v) same_p
    (subst (λ x. IsVoted (voted c q m d a ∷ h) q x name v) same_n
    (subst (λ x. IsVoted (voted c q m d a ∷ h) q m x v) same_name
    (subst (λ x. IsVoted (voted c q m d a ∷ h) q m c x) same_v
    (record {
      within = standing_within h q m (there_open (state_in (revision_of h q m)) is.still_open);
      on_last = λ last. record { newer = []; cast = refl; none_since = refl; allowed = is };
    }))))

voted_more : (h : History) (e : Event) → Follows h e → (p : ProfileName) (n : ℕ) (name : List ℕ) (v : CastVote) → vote_of (e ∷ h) p n name ≡ Some v
    → (vote_of h p n name ≡ Some v → IsVoted h p n name v) → IsVoted (e ∷ h) p n name v
voted_more h (founded x t d l) is p n name v at before = absurd is
voted_more h (submitted c q t) is p n name v at before =
    let b = before at in
    elim (is_profile p q) as (λ s. is_profile p q ≡ s → IsVoted (submitted c q t ∷ h) p n name v) [
      | true ↦ λ same.
          let more : revision_count (submitted c q t ∷ h) p ≡ suc (revision_count h p) =
          count_more p (submitted c q t) h ∙ ap (λ b. cond b (suc (revision_count h p)) (revision_count h p)) same in
          record { within = omega (arith, b.within, more); on_last = λ last. absurd (omega (arith, b.within, more, last)) }
      | false ↦ λ other.
          let as_many : revision_count (submitted c q t ∷ h) p ≡ revision_count h p =
          count_more p (submitted c q t) h ∙ ap (λ b. cond b (suc (revision_count h p)) (revision_count h p)) other in
          record {
            within = omega (arith, b.within, as_many);
            on_last = λ last. cast_before h (submitted c q t) p n name v other (b.on_last (last ∙ as_many));
          }
    ] refl
voted_more h (voted c q m d a) is p n name v at before =
    elim (is_profile p q && (n == m) && bytes_eq name c) as (λ s. (is_profile p q && (n == m) && bytes_eq name c) ≡ s
    → cond s (Some (record { approves = a; digest = d; before = h })) (vote_of h p n name) ≡ Some v → IsVoted (voted c q m d a ∷ h) p n name v) [
      | true ↦ λ same at.
          let parts = both (is_profile p q && (n == m)) (bytes_eq name c) same in
          let place = both (is_profile p q) (n == m) parts.0 in
          let vote : ◌≡◌ {A = CastVote} (record { approves = a; digest = d; before = h }) v = cc in
          cast_now h c q m d a is p n name v (sym (same_profile p q place.0)) (sym (eqb-true n m place.1)) (sym (same_bytes name c parts.1)) vote
      | false ↦ λ other at. let b = before at in record { within = b.within; on_last = λ last. cast_before h (voted c q m d a) p n name v refl (b.on_last last) }
    ] refl at
voted_more h (enrolled c x t r d) is p n name v at before = let b = before at in record { within = b.within; on_last = λ last. cast_before h (enrolled c x t r d) p n name v refl (b.on_last last) }
voted_more h (on_revision c act q k) is p n name v at before = let b = before at in record { within = b.within; on_last = λ last. cast_before h (on_revision c act q k) p n name v refl (b.on_last last) }
voted_more h (on_profile c act q) is p n name v at before = let b = before at in record { within = b.within; on_last = λ last. cast_before h (on_profile c act q) p n name v refl (b.on_last last) }

pub voted_on : (h : History) → IsLawfulHistory h → (p : ProfileName) (n : ℕ) (name : List ℕ) (v : CastVote) → vote_of h p n name ≡ Some v → IsVoted h p n name v
voted_on [] lawful p n name v at = absurd lawful
voted_on (founded x t d l ∷ []) lawful p n name v at = absurd (cc)
voted_on (_ ∷ []) lawful p n name v at = absurd lawful
voted_on (e ∷ f ∷ h) lawful p n name v at = voted_more (f ∷ h) e (allowed_follows (f ∷ h) e lawful.0) p n name v at (voted_on (f ∷ h) lawful.1 p n name v)

-- events that submit nothing of the profile leave its submissions and its authors
pub submission_kept : (newer rest : History) (p : ProfileName) (n : ℕ) → list_any (submits p) newer ≡ false → submission_of (newer ++ rest) p n ≡ submission_of rest p n
submission_kept [] rest p n none = refl
submission_kept (submitted c q t ∷ newer) rest p n none =
    elim (is_profile p q) as (λ s. (s || list_any (submits p) newer) ≡ false
    → cond (s && (n == suc (revision_count (newer ++ rest) p))) (Some (record { author = c; text = t })) (submission_of (newer ++ rest) p n) ≡ submission_of rest p n) [
      | true ↦ λ none. absurd (cc)
      | false ↦ λ none. submission_kept newer rest p n none
    ] none
submission_kept (_ ∷ newer) rest p n none = submission_kept newer rest p n none

pub author_kept : (newer rest : History) (p : ProfileName) (name : List ℕ) → list_any (submits p) newer ≡ false → is_author (newer ++ rest) p name ≡ is_author rest p name
author_kept [] rest p name none = refl
author_kept (submitted c q t ∷ newer) rest p name none =
    elim (is_profile p q) as (λ s. (s || list_any (submits p) newer) ≡ false → ((s && bytes_eq name c) || is_author (newer ++ rest) p name) ≡ is_author rest p name) [
      | true ↦ λ none. absurd (cc)
      | false ↦ λ none. author_kept newer rest p name none
    ] none
author_kept (_ ∷ newer) rest p name none = author_kept newer rest p name none
