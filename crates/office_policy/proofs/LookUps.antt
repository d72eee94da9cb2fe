-- What single look-ups in the tables of a history find is what looking back finds.
use Rattle.std.proofs.Common.{◌≡◌, ◌∙◌, ◌==◌, ◌&&◌, ◌||◌, ◌↔◌, ℕ, suc, List, [], ◌∷◌, Bool, true, false, not, cond, Some, None, Option, refl, sym, ap, subst, arith, eq-eqb, ne_eqb}
use Rattle.std.specs.Prelude.{is_some, option_map, bytes_eq}
use Rattle.std.proofs.lemmas.Bool.{and_from, or_left, or_right, not-true, eqb-false}
use Rattle.office_words.specs.declared.name.ProfileName.{ProfileName}
use Rattle.office_words.specs.declared.row.UserRow.{UserRow}
use Rattle.office_words.specs.Tables.{is_profile}
use Rattle.office_words.specs.Reads.{IsUserShowing, HasRevision}
use Rattle.office_words.specs.Lists.{IsAuthor}
use Rattle.office_policy.specs.History.{submitted, History}
use Rattle.office_policy.specs.Users.{user_showing}
use Rattle.office_policy.specs.Revisions.{Submission, submission_of, revision_count, is_author}
use Rattle.office_policy.specs.Lawful.{IsLawfulHistory}
use Rattle.office_policy.specs.TablesOf.{tables_of}
use Rattle.office_policy.proofs.UserFacts.{same_bytes, bytes_same, showing_one, showing_none}
use Rattle.office_policy.proofs.RevisionFacts.{some_within}
use Rattle.office_policy.proofs.StateFacts.{both, row_at}
use Rattle.office_policy.proofs.LawFacts.{lawful_apart}
use Rattle.office_policy.proofs.Histories.{numbers, submissions_kept}

-- ---- users

pub shower_is : (h : History) → IsLawfulHistory h → (digest : List ℕ) (user : Option UserRow) → IsUserShowing (tables_of h) digest user → user ≡ user_showing h digest
shower_is h lawful digest None none = sym (showing_none h digest none)
shower_is h lawful digest (Some u) is = sym (showing_one h (lawful_apart h lawful) digest u is.0 is.1)

-- ---- what is so just where the other is

alike : (a b : Bool) → (a ≡ true → b ≡ true) → (b ≡ true → a ≡ true) → a ≡ b
alike true b to from = sym (to refl)
alike false true to from = from refl
alike false false to from = refl

pub told : {P : Type 0} (a b : Bool) → ((a ≡ true) ↔ P) → ((b ≡ true) ↔ P) → a ≡ b
told a b of_a of_b = alike a b (λ e. of_b.1 (of_a.0 e)) (λ e. of_a.1 (of_b.0 e))

-- ---- submissions and their rows

row_of_some : {X Y : Type 0} (f : X → Y) (o : Option X) (y : Y) → option_map f o ≡ Some y → (x : X) × (o ≡ Some x) × (f x ≡ y)
row_of_some f None y at = absurd (cc)
row_of_some f (Some x) y at = (x, refl, cc)

some_there : {X : Type 0} (o : Option X) → is_some o ≡ true → (x : X) × (o ≡ Some x)
some_there None e = absurd (cc)
some_there (Some x) e = (x, refl)

-- ---- authors

-- a submission of the profile by a name
abbrev HasSubmitted : History → ProfileName → List ℕ → Type 0
HasSubmitted h p name = (n : ℕ) × (s : Submission) × (submission_of h p n ≡ Some s) × (s.author ≡ name)

-- the newest submission
newest : (h : History) (c : List ℕ) (q : ProfileName) (t : List ℕ) (p : ProfileName) (name : List ℕ)
    → (is_profile p q && bytes_eq name c) ≡ true → HasSubmitted (submitted c q t ∷ h) p name
newest h c q t p name here =
    let parts = both (is_profile p q) (bytes_eq name c) here in (
      suc (revision_count h p),
      record { author = c; text = t },
      rw (parts.0, eq-eqb (suc (revision_count h p)) (suc (revision_count h p)) refl) refl,
      sym (same_bytes name c parts.1),
    )

has_submitted : (h : History) (p : ProfileName) (name : List ℕ) → is_author h p name ≡ true → HasSubmitted h p name
has_submitted [] p name e = absurd (cc)
has_submitted (submitted c q t ∷ h) p name e =
    elim (is_profile p q && bytes_eq name c) as (λ b. (is_profile p q && bytes_eq name c) ≡ b
    → (b || is_author h p name) ≡ true → HasSubmitted (submitted c q t ∷ h) p name) [
      | true ↦ λ here e. newest h c q t p name here
      | false ↦ λ other e.
          let it = has_submitted h p name e in
          (it.0, it.1, submissions_kept h (submitted c q t) p it.0 it.1 it.2, it.3)
    ] refl e
has_submitted (_ ∷ h) p name e = has_submitted h p name e

is_submitter : (h : History) (p : ProfileName) (n : ℕ) (s : Submission) → submission_of h p n ≡ Some s → is_author h p s.author ≡ true
is_submitter [] p n s at = absurd (cc)
is_submitter (submitted c q t ∷ h) p n s at =
    elim (is_profile p q && (n == suc (revision_count h p))) as (λ b. (is_profile p q && (n == suc (revision_count h p))) ≡ b
    → cond b (Some (record { author = c; text = t })) (submission_of h p n) ≡ Some s
    → ((is_profile p q && bytes_eq s.author c) || is_author h p s.author) ≡ true) [
      | true ↦ λ here at.
          let same : ◌≡◌ {A = Submission} (record { author = c; text = t }) s = cc in
          let own = (both (is_profile p q) (n == suc (revision_count h p)) here).0 in
          let named = bytes_same s.author c (sym (ap (λ x. x.author) same)) in
          or_left (is_profile p q && bytes_eq s.author c) (is_author h p s.author) (and_from (is_profile p q) (bytes_eq s.author c) own named)
      | false ↦ λ other at. or_right (is_profile p q && bytes_eq s.author c) (is_author h p s.author) (is_submitter h p n s at)
    ] refl at
is_submitter (_ ∷ h) p n s at = is_submitter h p n s at

author_told : (h : History) (p : ProfileName) (name : List ℕ) → (is_author h p name ≡ true) ↔ IsAuthor (tables_of h) p name
author_told h p name = (stands, submitter)
  where
    stands : is_author h p name ≡ true → IsAuthor (tables_of h) p name
    stands e =
        let it = has_submitted h p name e in
        let row = row_at h p it.0 (revision_count h p) in
        record { number = it.0; revision = row it.1; there = ap (option_map row) it.2; author = it.3 }

    submitter : IsAuthor (tables_of h) p name → is_author h p name ≡ true
    submitter is =
        let it = row_of_some (row_at h p is.number (revision_count h p)) (submission_of h p is.number) is.revision is.there in
        subst (λ x. is_author h p x ≡ true) (ap (λ r. r.author) it.2 ∙ is.author) (is_submitter h p is.number it.0 it.1)

pub author_is : (h : History) (p : ProfileName) (name : List ℕ) (is : Bool) → ((is ≡ true) ↔ IsAuthor (tables_of h) p name) → is ≡ is_author h p name
author_is h p name is tells = told is (is_author h p name) tells (author_told h p name)

-- ---- whether there is a revision

revision_told : (h : History) (p : ProfileName) → (not (revision_count h p == 0) ≡ true) ↔ HasRevision (tables_of h) p
revision_told h p = (first, some)
  where
    first : not (revision_count h p == 0) ≡ true → HasRevision (tables_of h) p
    first e =
        let none = eqb-false (revision_count h p) 0 (not-true (revision_count h p == 0) e) in
        let it = some_there (submission_of h p 1) (some_within h p 1 (omega arith) (omega (arith, none))) in
        record { number = 1; revision = row_at h p 1 (revision_count h p) it.0; there = ap (option_map (row_at h p 1 (revision_count h p))) it.1 }

    some : HasRevision (tables_of h) p → not (revision_count h p == 0) ≡ true
    some has =
        let it = row_of_some (row_at h p has.number (revision_count h p)) (submission_of h p has.number) has.revision has.there in
        let within = (numbers h p has.number).0 (ap is_some it.1) in
        ap not (ne_eqb (revision_count h p) 0 (λ none. absurd (omega (arith, none, within.0, within.1))))

pub found_is : (h : History) (p : ProfileName) (found : Bool) → ((found ≡ true) ↔ HasRevision (tables_of h) p) → found ≡ not (revision_count h p == 0)
found_is h p found tells = told found (not (revision_count h p == 0)) tells (revision_told h p)
