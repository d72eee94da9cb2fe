-- Searches among numbers, and the search for the lowest member of one set that another has not.
use Rattle.std.proofs.Common.{◌≡◌, ◌∙◌, ℕ, zero, suc, ◌+◌, ◌^◌, ◌<◌, ◌≤◌, ◌==◌, Bool, true, false, not, cond, List, [], ◌∷◌, Option, Some, None, inl, inr, refl, sym, ap, arith, eq-eqb, ne_eqb}
use Rattle.std.proofs.Math.Nat.{pow-suc}
use Rattle.std.proofs.lemmas.Bool.{cases_eq, cases_lt, and_from, and_left, and_right, both_ways}
use Rattle.std.proofs.lemmas.Nat.Bits.{bit_at_above}
use Rattle.std.specs.Int.{bit_at}
use Rattle.std.specs.List.{range_with_len}
use Rattle.std.specs.Prelude.{find}
use Rattle.cap_sets.specs.Capability.{Has, IsLowest, IsWithin}
use Rattle.cap_sets.specs.Lawful.{is_outside, lowest_outside}

-- where nothing is found, the first doesn't pass, and nothing is found among the others
pub passed_over : (test : Bool) (n : ℕ) (rest : Option ℕ) → cond test (Some n) rest ≡ None → (test ≡ false) × (rest ≡ None)
passed_over true n rest e = cc
passed_over false n rest e = (refl, e)

-- where no number of a range is found, none of them passes
none_passes : (p : ℕ → Bool) (from count : ℕ) → find p (range_with_len from count) ≡ None → (n : ℕ) → from ≤ n → n < from + count → p n ≡ false
none_passes p from zero none n low high = absurd (omega arith)
none_passes p from (suc count) none n low high =
    let over = passed_over (p from) from (find p (range_with_len (from + 1) count)) none in
    elim (cases_eq n from) as (λ _. p n ≡ false) [
      | inl same ↦ ap p same ∙ over.0
      | inr other ↦ none_passes p (from + 1) count over.1 n (omega arith) (omega arith)
    ]

-- where none passes, none is found
none_found : (p : ℕ → Bool) (ns : List ℕ) → ((n : ℕ) → p n ≡ false) → find p ns ≡ None
none_found p [] none = refl
none_found p (n ∷ ns) none = ap (λ b. cond b (Some n) (find p ns)) (none n) ∙ none_found p ns none

-- a number of a range that passes is found, where no lower one does
lowest_found : (p : ℕ → Bool) (from count n : ℕ) → from ≤ n → n < from + count → p n ≡ true → ((k : ℕ) → k < n → p k ≡ false) → find p (range_with_len from count) ≡ Some n
lowest_found p from zero n low high passes below = absurd (omega arith)
lowest_found p from (suc count) n low high passes below =
    let rest = find p (range_with_len (from + 1) count) in
    elim (cases_eq n from) as (λ _. find p (range_with_len from (suc count)) ≡ Some n) [
      | inl same ↦ ap (λ b. cond b (Some from) rest) (ap p (sym same) ∙ passes) ∙ ap (λ k. Some k) (sym same)
      | inr other ↦
          ap (λ b. cond b (Some from) rest) (below from (omega arith))
          ∙ lowest_found p (from + 1) count n (omega arith) (omega arith) passes below
    ]

below_power : (n : ℕ) → n < 2 ^ n
below_power zero = omega arith
below_power (suc n) = let before = below_power n in rw (pow-suc 2 n) (omega arith)

-- what is in a set is below the number that it is
member_below : (caps n : ℕ) → Has caps n → n < caps
member_below caps n has = elim (cases_lt n caps) [ inl lt ↦ lt | inr ge ↦ let none = bit_at_above caps caps n (below_power caps) ge in absurd (omega arith) ]

outside_here : (a b n : ℕ) → Has a n → ¬ Has b n → is_outside a b n ≡ true
outside_here a b n has lacks = and_from (bit_at a n == 1) (not (bit_at b n == 1)) (eq-eqb (bit_at a n) 1 has) (ap not (ne_eqb (bit_at b n) 1 lacks))

not_outside : (a b n : ℕ) → ¬ (Has a n × ¬ Has b n) → is_outside a b n ≡ false
not_outside a b n none =
    elim (cases_eq (bit_at a n) 1) as (λ _. is_outside a b n ≡ false) [
      | inr lacks ↦ and_left (bit_at a n == 1) (not (bit_at b n == 1)) (ne_eqb (bit_at a n) 1 lacks)
      | inl has ↦ elim (cases_eq (bit_at b n) 1) as (λ _. is_outside a b n ≡ false) [
        | inl there ↦ and_right (bit_at a n == 1) (not (bit_at b n == 1)) (ap not (eq-eqb (bit_at b n) 1 there))
        | inr lacks ↦ absurd (none (has, lacks))
      ]
    ]

-- nothing is found outside a set just where the other is within it
pub within_from_search : (a b : ℕ) → lowest_outside a b ≡ None → IsWithin a b
unfolding lowest_outside
within_from_search a b none n has =
    let below = member_below a n has in
    elim (cases_eq (bit_at b n) 1) as (λ _. Has b n) [
      | inl there ↦ there
      | inr lacks ↦ absurd (both_ways (is_outside a b n) (none_passes (is_outside a b) 0 a none n (omega arith) (omega arith)) (outside_here a b n has lacks))
    ]

pub search_from_within : (a b : ℕ) → IsWithin a b → lowest_outside a b ≡ None
unfolding lowest_outside
search_from_within a b within = none_found (is_outside a b) (range_with_len 0 a) (λ n. not_outside a b n (λ both. both.1 (within n both.0)))

-- the lowest is found
pub search_from_lowest : (a b n : ℕ) → IsLowest (λ k. Has a k × ¬ Has b k) n → lowest_outside a b ≡ Some n
unfolding lowest_outside
search_from_lowest a b n lowest =
    let below = member_below a n lowest.holds.0 in
    lowest_found (is_outside a b) 0 a n (omega arith) (omega arith) (outside_here a b n lowest.holds.0 lowest.holds.1) (λ k lt. not_outside a b k (lowest.below k lt))
