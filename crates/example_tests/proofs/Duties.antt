-- Votes that name the text of a revision, and texts that are none of it.
use Rattle.std.proofs.Common.{◌≡◌, ◌∙◌, ◌<◌, ℕ, zero, suc, List, [], ◌∷◌, ◌++◌, true, false, Bool, Option, Some, None, length, slice_index_or, refl, sym, ap, subst, arith}
use Rattle.std.specs.List.{Contains, list_any}
use Rattle.sha2.proofs.Facts256.{length-sha256}
use Rattle.profile_text.specs.Digest.{digest_of}
use Rattle.office_policy.specs.Duty.{IsTextOf, NamesTheText}
use Rattle.office_policy.specs.Examples.{ann, ben, one_submitted, rev, submits, sue, text, web}
use Rattle.office_policy.specs.History.{Event, History, voted}
use Rattle.office_policy.specs.LawExamples.{names_text, text_approved}
use Rattle.office_policy.specs.Revisions.{Submission}
use Rattle.office_policy.specs.Revisions.{submits as hands_in}
use Rattle.office_policy.specs.Votes.{CastVote}

pub false_is_true : false ≡ true → ⊥
false_is_true e = cc

pub true_is_false : true ≡ false → ⊥
true_is_false e = cc

pub same : {A : Type 0} (x y : A) → Some x ≡ Some y → x ≡ y
same x y is = cc

-- ---- votes

abbrev pub handed_in : Submission
handed_in = record { author = ann; text = text }

pub rev_names : NamesTheText text_approved web 1 handed_in rev
rev_names = record {
  vote = record { approves = true; digest = digest_of text; before = one_submitted };
  stands = refl;
  approves = refl;
  newer = names_text sue ∷ [];
  cast = refl;
  digest = refl;
  after_it = refl;
  none_since = refl;
}

pub sue_names : NamesTheText text_approved web 1 handed_in sue
sue_names = record {
  vote = record { approves = true; digest = digest_of text; before = names_text rev ∷ one_submitted };
  stands = refl;
  approves = refl;
  newer = [];
  cast = refl;
  digest = refl;
  after_it = refl;
  none_since = refl;
}

pub each_names : (name : List ℕ) → Contains (rev ∷ sue ∷ []) name → NamesTheText text_approved web 1 handed_in name
each_names name is = at is.0 is.1 is.2
  where
    at : (k : ℕ) → k < 2 → slice_index_or (rev ∷ sue ∷ []) k name ≡ name → NamesTheText text_approved web 1 handed_in name
    at zero among is = subst (NamesTheText text_approved web 1 handed_in) is rev_names
    at (suc zero) among is = subst (NamesTheText text_approved web 1 handed_in) is sue_names
    at (suc (suc k)) among is = absurd (omega (arith, among))

-- one byte is no digest, and none is none
pub no_digest_of : (byte : ℕ) (bytes : List ℕ) → (byte ∷ []) ≡ digest_of bytes → ⊥
unfolding digest_of
no_digest_of byte bytes is = let k : 1 ≡ 32 = ap length is ∙ length-sha256 bytes in absurd (omega (arith, k))

pub no_digest : (bytes : List ℕ) → (9 ∷ []) ≡ digest_of bytes → ⊥
no_digest = no_digest_of 9

pub nothing_is_no_digest : (bytes : List ℕ) → [] ≡ digest_of bytes → ⊥
unfolding digest_of
nothing_is_no_digest bytes is = let k : 0 ≡ 32 = ap length is ∙ length-sha256 bytes in absurd (omega (arith, k))

-- the event that is handed in first is among those in front of a vote
abbrev first_of : History → Event
first_of [] = submits ben
first_of (e ∷ h) = e

pub handed_in_since : (newer before h : History) (digest : List ℕ) (approves : Bool) → submits ben ∷ h ≡ newer ++ voted rev web 1 digest approves ∷ before → list_any (hands_in web) newer ≡ false → ⊥
handed_in_since [] before h digest approves is none = let k : submits ben ≡ voted rev web 1 digest approves = ap first_of is in cc
handed_in_since (e ∷ newer) before h digest approves is none =
    let first : submits ben ≡ e = ap first_of is in
    true_is_false (subst (λ (e : Event). list_any (hands_in web) (e ∷ newer) ≡ false) (sym first) none)

-- ---- texts

abbrev text_in : Option Submission → List ℕ
text_in None = []
text_in (Some submission) = submission.text

one_is_two : ◌≡◌ {A = List ℕ} (1 ∷ []) (2 ∷ []) → ⊥
one_is_two is = let k : ◌≡◌ {A = ℕ} 1 2 = ap (λ (l : List ℕ). slice_index_or l 0 0) is in absurd (omega (arith, k))

pub no_other_text : (author : List ℕ) → Some handed_in ≡ Some (record { author = author; text = 2 ∷ [] }) → ⊥
no_other_text author is = one_is_two (ap text_in is)
