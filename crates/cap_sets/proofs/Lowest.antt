-- The members of one set that another has not, and the lowest of them.
use Rattle.std.proofs.Common.{◌≡◌, ◌∙◌, ℕ, ◌-◌, ◌^◌, ◌<◌, ◌==◌, ◌≢◌, inl, inr, min, sym, ap, arith}
use Rattle.std.proofs.lemmas.Nat.{and_le_l}
use Rattle.std.proofs.lemmas.Nat.Bits.{bit_at_and, bit_at_not, bit_at_above, bit_at-zero, bit_at-lt, bit_at-trailing_zeros}
use Rattle.std.proofs.lemmas.Bool.{cases_eq, cases_lt}
use Rattle.std.specs.Bool.{OnFalse}
use Rattle.std.specs.Int.{bit_at, bit_not, trailing_zeros, w64}
use Rattle.std.specs.Int.RustNames.{bit_and}
use Rattle.std.specs.Prelude.{Bool, true, false}
use Rattle.cap_sets.specs.Capability.{Has, IsWithin, IsLowest}
use Rattle.cap_sets.proofs.Bits.{cases_bit, test_from_within}

-- the bits of a that b hasn't
abbrev pub outside : ℕ → ℕ → ℕ
outside a b = bit_and a (bit_not w64 b)

bit_at-outside : (a b i : ℕ) → b < 2 ^ 64 → i < 64 → bit_at (outside a b) i ≡ min (bit_at a i) (1 - bit_at b i)
bit_at-outside a b i small lt = bit_at_and a (bit_not w64 b) i ∙ ap (min (bit_at a i)) (bit_at_not w64 b i small lt)

-- a bit that is set is one of the first 64
bit_in_word : (a n : ℕ) → a < 2 ^ 64 → Has a n → n < 64
bit_in_word a n small h = elim (cases_lt n 64) [ inl lt ↦ lt | inr ge ↦ let none = bit_at_above a 64 n small ge in absurd (omega arith) ]

-- where no bit is outside, the one set is within the other
pub within_from_none : (a b : ℕ) → a < 2 ^ 64 → b < 2 ^ 64 → outside a b ≡ 0 → IsWithin a b
within_from_none a b small_a small_b e n h =
    let lt = bit_in_word a n small_a h in
    let bit : bit_at (outside a b) n ≡ 0 = ap (λ x. bit_at x n) e ∙ bit_at-zero n in
    let split = bit_at-outside a b n small_b lt in
    let bound = bit_at-lt b n in
    omega arith

-- the trailing zeros of the bits outside count to the lowest of them
pub lowest_from_some : (a b : ℕ) → a < 2 ^ 64 → b < 2 ^ 64 → outside a b ≢ 0 → IsLowest (λ k. Has a k × ¬ Has b k) (trailing_zeros w64 (outside a b))
lowest_from_some a b small_a small_b some =
    let low = and_le_l a (bit_not w64 b) in
    let facts = bit_at-trailing_zeros w64 (outside a b) (omega arith) (omega arith) in
    let n : ℕ = trailing_zeros w64 (outside a b) in
    let split = bit_at-outside a b n small_b facts.0 in
    let bound_a = bit_at-lt a n in
    let bound_b = bit_at-lt b n in
    record {
      holds = (omega (arith, facts.1), λ h. absurd (omega (arith, facts.1)));
      below = λ k lt both.
          let small_k : k < 64 = omega (arith, facts.0) in
          let zero = facts.2 k lt in
          let parts = bit_at-outside a b k small_b small_k in
          let bound = bit_at-lt b k in
          elim (cases_bit b k) as (λ _. ⊥) [ inl none ↦ omega (arith, both.0) | inr one ↦ both.1 one ];
    }

-- a set that is not within another has a member that the other hasn't
pub some_lacking : (a b : ℕ) → a < 2 ^ 64 → b < 2 ^ 64 → (bit_and a b == b) ≡ false → (n : ℕ) × (Has b n × ¬ Has a n)
some_lacking a b small_a small_b test =
    elim (cases_eq (outside b a) 0) [
      | inl none ↦ let within = test_from_within a b (within_from_none b a small_b small_a none) in cc
      | inr some ↦ let lowest = lowest_from_some b a small_b small_a some in (trailing_zeros w64 (outside b a), lowest.holds)
    ]

-- the same from the test of bits
pub lacking_from_test : (a b : ℕ) (test : Bool) → a < 2 ^ 64 → b < 2 ^ 64 → test ≡ (bit_and a b == b) → OnFalse test ((n : ℕ) × (Has b n × ¬ Has a n))
lacking_from_test a b true small_a small_b is = tt
lacking_from_test a b false small_a small_b is = some_lacking a b small_a small_b (sym is)
