-- Capabilities that a new set has gained.
use Rattle.std.proofs.Common.{◌≡◌, ◌∙◌, ap, refl, sym, ℕ, zero, suc, ◌+◌, ◌<◌, ◌≤◌, ◌^◌, List, [], ◌∷◌, Bool, true, false, not, ◌==◌, map, inl, inr, eqb-true, eq-eqb, arith}
use Rattle.std.specs.Int.{bit_at}
use Rattle.std.specs.List.{list_any, range_with_len}
use Rattle.std.proofs.lemmas.Bool.{cases_Bool, cases_eq, cases_lt, and_from, and_right, and_left, ne_eqb, not-false, or_left, or_right, or_from, both_ways}
use Rattle.std.proofs.lemmas.Nat.Bits.{bit_at_above}
use Rattle.cap_sets.specs.Capability.{Has, IsWithin}
use Rattle.cap_sets.proofs.Lowest.{lowest_from_some, outside, within_from_none}
use Rattle.profile_text.specs.declared.sets.CapSet.{CapSet}
use Rattle.widening.specs.declared.finding.Finding.TheVariants.{Cap}
use Rattle.widening.specs.Findings.{gained, is_gained}
use Rattle.widening.proofs.Searches.{is_empty_map}

-- a number of a range passes
in_range : (p : ℕ → Bool) (from count n : ℕ) → from ≤ n → n < from + count → p n ≡ true → list_any p (range_with_len from count) ≡ true
in_range p from zero n low high passes = absurd (omega arith)
in_range p from (suc count) n low high passes = elim (cases_eq n from) as (λ _. list_any p (range_with_len from (suc count)) ≡ true) [
  | inl same ↦ or_left (p from) (list_any p (range_with_len (from + 1) count)) (ap p (sym same) ∙ passes)
  | inr other ↦ or_right (p from) (list_any p (range_with_len (from + 1) count)) (in_range p (from + 1) count n (omega arith) (omega arith) passes)
]

none_in : (p : ℕ → Bool) → ((n : ℕ) → p n ≡ false) → (ns : List ℕ) → list_any p ns ≡ false
none_in p none [] = refl
none_in p none (n ∷ ns) = or_from (p n) (list_any p ns) (none n) (none_in p none ns)

below_41 : (caps n : ℕ) → caps < 2 ^ 41 → Has caps n → n < 41
below_41 caps n known has = elim (cases_lt n 41) [ inl lt ↦ lt | inr ge ↦ let zero = bit_at_above caps 41 n known ge in absurd (omega (arith, has)) ]

gained_here : (base new n : ℕ) → Has new n → (bit_at base n == 1) ≡ false → is_gained base new n ≡ true
gained_here base new n has missing = and_from (bit_at new n == 1) (not (bit_at base n == 1)) (eq-eqb (bit_at new n) 1 has) (ap not missing)

-- a set that gains nothing is within the other
pub within_from_nothing : (set : CapSet) (base new : ℕ) → new < 2 ^ 41 → map (Cap set) (gained base new) ≡ [] → IsWithin new base
unfolding gained
within_from_nothing set base new known none n has =
    elim (cases_Bool (bit_at base n == 1)) as (λ _. Has base n) [
      | inl there ↦ eqb-true (bit_at base n) 1 there
      | inr missing ↦
          absurd (both_ways _ (is_empty_map (Cap set) (is_gained base new) (range_with_len 0 41) none)
          (in_range (is_gained base new) 0 41 n (omega arith) (let lt = below_41 new n known has in omega arith) (gained_here base new n has missing)))
    ]

-- a set within the other gains nothing
kept_here : (base new : ℕ) → IsWithin new base → (n : ℕ) → is_gained base new n ≡ false
kept_here base new within n =
    elim (cases_eq (bit_at new n) 1) as (λ _. is_gained base new n ≡ false) [
      | inl has ↦ and_right (bit_at new n == 1) (not (bit_at base n == 1)) (ap not (eq-eqb (bit_at base n) 1 (within n has)))
      | inr lacks ↦ and_left (bit_at new n == 1) (not (bit_at base n == 1)) (ne_eqb (bit_at new n) 1 lacks)
    ]

-- the bits outside show whether something is gained
pub gains_told : (base new : ℕ) → base < 2 ^ 64 → new < 2 ^ 41 → (outside new base == 0) ≡ not (list_any (is_gained base new) (range_with_len 0 41))
gains_told base new small known =
    let fits : new < 2 ^ 64 = omega arith in
    elim (cases_eq (outside new base) 0) as (λ _. (outside new base == 0) ≡ not (list_any (is_gained base new) (range_with_len 0 41))) [
      | inl none ↦
          eq-eqb (outside new base) 0 none
          ∙ ap not (sym (none_in (is_gained base new) (kept_here base new (within_from_none new base fits small none)) (range_with_len 0 41)))
      | inr some ↦
          let lowest = lowest_from_some new base fits small some in
          ne_eqb (outside new base) 0 some
          ∙ ap not (sym (in_range (is_gained base new) 0 41 _ (omega arith) (let lt = below_41 new _ known lowest.holds.0 in omega arith)
          (gained_here base new _ lowest.holds.0 (ne_eqb (bit_at base _) 1 lowest.holds.1))))
    ]

not_not : (b : Bool) → not (not b) ≡ b
not_not true = refl
not_not false = refl

-- the same of the bits as they were read
pub gains_from_bits : (base new read_base read_new : ℕ) → read_new ≡ new → read_base ≡ base → base < 2 ^ 64 → new < 2 ^ 41 →
    not (outside read_new read_base == 0) ≡ list_any (is_gained base new) (range_with_len 0 41)
gains_from_bits base new read_base read_new same_new same_base small known =
    ap (λ n. not (outside n read_base == 0)) same_new ∙ ap (λ b. not (outside new b == 0)) same_base
    ∙ ap not (gains_told base new small known) ∙ not_not (list_any (is_gained base new) (range_with_len 0 41))

-- where none of them is outside, the set is within the other
pub within_from_bits : (base new read_base read_new : ℕ) → read_new ≡ new → read_base ≡ base → base < 2 ^ 64 → new < 2 ^ 41 →
    not (outside read_new read_base == 0) ≡ false → IsWithin new base
within_from_bits base new read_base read_new same_new same_base small known none =
    within_from_none new base (omega arith) small
    (ap (λ n. outside n base) (sym same_new) ∙ ap (outside read_new) (sym same_base) ∙ eqb-true (outside read_new read_base) 0 (not-false _ none))
