-- Revisions of a history: their numbers run from 1 without a gap.
use Rattle.std.proofs.Common.{◌≡◌, ◌≢◌, ◌∙◌, ◌<◌, ◌≤◌, ◌==◌, ◌&&◌, ℕ, suc, [], ◌∷◌, length, true, false, cond, Some, None, Option, refl, ap, subst, arith}
use Rattle.std.specs.Prelude.{is_some, is_none, filter, option_map}
use Rattle.std.proofs.lemmas.Bool.{ne_eqb, eqb-false}
use Rattle.office_words.specs.declared.name.ProfileName.{ProfileName}
use Rattle.office_words.specs.declared.row.RevisionRow.{RevisionRow}
use Rattle.office_words.specs.Tables.{is_profile}
use Rattle.office_words.specs.Reads.{IsLast}
use Rattle.office_policy.specs.History.{Event, submitted, History}
use Rattle.office_policy.specs.Revisions.{submits, revision_count, submission_of, revision_of, state_in}
use Rattle.office_policy.specs.TablesOf.{tables_of}

-- the count after one more event that may be a submission
pub count_more : (p : ProfileName) (e : Event) (h : History) → revision_count (e ∷ h) p ≡ cond (submits p e) (suc (revision_count h p)) (revision_count h p)
count_more p e h = elim (submits p e) as (λ b. length (cond b (e ∷ filter (submits p) h) (filter (submits p) h)) ≡ cond b (suc (revision_count h p)) (revision_count h p)) [
  | true ↦ refl
  | false ↦ refl
]

-- no submission has a number above the last
pub none_above : (h : History) (p : ProfileName) (n : ℕ) → revision_count h p < n → submission_of h p n ≡ None
none_above [] p n above = refl
none_above (submitted c q t ∷ h) p n above =
    elim (is_profile p q) as (λ b. is_profile p q ≡ b → cond (b && (n == suc (revision_count h p))) (Some (record { author = c; text = t })) (submission_of h p n) ≡ None) [
      | true ↦ λ same.
          let more : suc (revision_count h p) < n = rw same at (subst (λ k. k < n) (count_more p (submitted c q t) h) above) in
          rw (ne_eqb n (suc (revision_count h p)) (λ e. absurd (omega arith))) (none_above h p n (omega arith))
      | false ↦ λ same. none_above h p n (rw same at (subst (λ k. k < n) (count_more p (submitted c q t) h) above))
    ] refl
none_above (_ ∷ h) p n above = none_above h p n above

-- each number from 1 to the last has a submission
pub some_within : (h : History) (p : ProfileName) (n : ℕ) → 0 < n → n ≤ revision_count h p → is_some (submission_of h p n) ≡ true
some_within [] p n some within = absurd (omega arith)
some_within (submitted c q t ∷ h) p n some within =
    elim (is_profile p q) as (λ b. is_profile p q ≡ b → is_some (cond (b && (n == suc (revision_count h p))) (Some (record { author = c; text = t })) (submission_of h p n)) ≡ true) [
      | true ↦ λ same.
          let most : n ≤ suc (revision_count h p) = rw same at (subst (λ k. n ≤ k) (count_more p (submitted c q t) h) within) in
          elim (n == suc (revision_count h p)) as (λ b. (n == suc (revision_count h p)) ≡ b → is_some (cond b (Some (record { author = c; text = t })) (submission_of h p n)) ≡ true) [
            | true ↦ λ last. refl
            | false ↦ λ earlier. let other = eqb-false n (suc (revision_count h p)) earlier in some_within h p n some (below n (revision_count h p) most other)
          ] refl
      | false ↦ λ same. some_within h p n some (rw same at (subst (λ k. n ≤ k) (count_more p (submitted c q t) h) within))
    ] refl
  where
    below : (n last : ℕ) → n ≤ suc last → (n ≡ suc last → ⊥) → n ≤ last
    below n last most other = omega arith
some_within (_ ∷ h) p n some within = some_within h p n some within

-- a submission that is there has a number up to the last
pub within_last : (h : History) (p : ProfileName) (n : ℕ) → submission_of h p n ≢ None → n ≤ revision_count h p
within_last h p n there = omega (arith, λ (above : revision_count h p < n). there (none_above h p n above))

no_row : {X Y : Type 0} (f : X → Y) (o : Option X) → option_map f o ≡ None → o ≡ None
no_row f None e = refl
no_row f (Some x) e = absurd (cc)

no_submission : {X Y : Type 0} (f : X → Y) (o : Option X) (y : Y) → option_map f o ≡ Some y → o ≢ None
no_submission f None y e is = absurd (cc)
no_submission f (Some x) y e is = absurd (cc)

-- a profile with no revision of its last number has none
pub none_last : (h : History) (p : ProfileName) → revision_of h p (revision_count h p) ≡ None → revision_count h p ≡ 0
none_last h p none = omega (arith, has_none)
  where
    has_none : 0 < revision_count h p → ⊥
    has_none some =
        let there = some_within h p (revision_count h p) some (omega arith) in
        let empty = no_row _ (submission_of h p (revision_count h p)) none in
        cc

-- the last revision that a store answers has the last number
pub number_is : (h : History) (p : ProfileName) (r : RevisionRow) → IsLast (tables_of h) p (Some r) → revision_count h p ≡ r.number
number_is h p r is =
    let low : r.number ≤ revision_count h p = within_last h p r.number (no_submission _ _ r is.0) in
    omega (arith, λ (above : r.number < revision_count h p). none_between (none_last h p (is.1 (revision_count h p) above)) above)
  where
    none_between : revision_count h p ≡ 0 → r.number < revision_count h p → ⊥
    none_between zero above = absurd (omega arith)

-- and it is the revision of that number
pub last_is : (h : History) (p : ProfileName) (found : Option RevisionRow) → IsLast (tables_of h) p found → revision_of h p (revision_count h p) ≡ found
last_is h p None is = is (revision_count h p)
last_is h p (Some r) is = ap (revision_of h p) (number_is h p r is) ∙ is.0

-- a revision that is there has a number up to the last
pub standing_within : (h : History) (p : ProfileName) (n : ℕ) → is_none (state_in (revision_of h p n)) ≡ false → n ≤ revision_count h p
standing_within h p n there = within_last h p n (λ none. absurd (false_there none))
  where
    false_there : submission_of h p n ≡ None → ⊥
    false_there none = let gone = rw none at there in cc
