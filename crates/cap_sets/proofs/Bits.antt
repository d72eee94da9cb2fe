-- What the operations on bits do to the members of a set, and when two sets are equal.
use Rattle.std.proofs.Common.{◌≡◌, ◌∙◌, ℕ, ◌==◌, ◌⊎◌, eqb-true, eq-eqb, inl, inr, min, max, sym, ap, arith}
use Rattle.std.proofs.lemmas.Nat.Bits.{bit_at_and, bit_at_or, bit_at-zero, bit_at-lt, same_from_bits}
use Rattle.std.proofs.lemmas.Bool.{cases_lt}
use Rattle.std.specs.Int.{bit_at}
use Rattle.std.specs.Int.RustNames.{bit_and, bit_or}
use Rattle.std.specs.Prelude.{IsTrue, ◌↔◌}
use Rattle.cap_sets.specs.Capability.{Has, IsWithin}

-- each bit is 0 or 1
pub cases_bit : (n i : ℕ) → (bit_at n i ≡ 0) ⊎ (bit_at n i ≡ 1)
cases_bit n i = let small = bit_at-lt n i in elim (cases_lt (bit_at n i) 1) [ inl h ↦ inl (omega arith) | inr h ↦ inr (omega arith) ]

-- the set with no member has none
pub none_in_zero : (n : ℕ) → ¬ Has 0 n
none_in_zero n h = let zero = bit_at-zero n in absurd (omega (arith, h))

-- a member of a union is in one of the two sets, and the other way round
pub either_from_or : (a b n : ℕ) → Has (bit_or a b) n → Has a n ⊎ Has b n
either_from_or a b n h =
    let larger : max (bit_at a n) (bit_at b n) ≡ 1 = sym (bit_at_or a b n) ∙ h in
    elim (cases_bit a n) as (λ _. Has a n ⊎ Has b n) [ inl none ↦ inr (omega arith) | inr one ↦ inl one ]

pub or_from_either : (a b n : ℕ) → Has a n ⊎ Has b n → Has (bit_or a b) n
or_from_either a b n h =
    bit_at_or a b n ∙ (let small = bit_at-lt a n in let other = bit_at-lt b n in elim h as (λ _. max (bit_at a n) (bit_at b n) ≡ 1) [ inl one ↦ omega arith | inr one ↦ omega arith ])

-- a member of an intersection is in both sets, and the other way round
pub both_from_and : (a b n : ℕ) → Has (bit_and a b) n → Has a n × Has b n
both_from_and a b n h = let e = bit_at_and a b n in let small_a = bit_at-lt a n in let small_b = bit_at-lt b n in (omega arith, omega arith)

pub and_from_both : (a b n : ℕ) → Has a n × Has b n → Has (bit_and a b) n
and_from_both a b n h = let e = bit_at_and a b n in omega (arith, h.0, h.1)

-- the mask of a set within another
pub within_from_and : (a b : ℕ) → bit_and a b ≡ b → IsWithin b a
within_from_and a b e n h =
    let both : min (bit_at a n) (bit_at b n) ≡ bit_at b n = sym (bit_at_and a b n) ∙ ap (λ x. bit_at x n) e in
    let small = bit_at-lt a n in
    omega arith

pub and_from_within : (a b : ℕ) → IsWithin b a → bit_and a b ≡ b
and_from_within a b h = same_from_bits (bit_and a b) b (λ i.
    bit_at_and a b i ∙ elim (cases_bit b i) as (λ _. min (bit_at a i) (bit_at b i) ≡ bit_at b i) [
      | inl none ↦ omega arith
      | inr one ↦ let there : bit_at a i ≡ 1 = h i one in omega arith
    ])

-- the test of bits by which a set is within another
pub within_from_test : (a b : ℕ) → IsTrue (bit_and a b == b) → IsWithin b a
within_from_test a b h = within_from_and a b (eqb-true _ _ h)

pub test_from_within : (a b : ℕ) → IsWithin b a → IsTrue (bit_and a b == b)
test_from_within a b h = eq-eqb _ _ (and_from_within a b h)

same_bit : (a b n : ℕ) → (Has a n → Has b n) → (Has b n → Has a n) → bit_at a n ≡ bit_at b n
same_bit a b n there back = elim (cases_bit a n) as (λ _. bit_at a n ≡ bit_at b n) [
  | inl none ↦ elim (cases_bit b n) as (λ _. bit_at a n ≡ bit_at b n) [ inl other ↦ none ∙ sym other | inr one ↦ back one ∙ sym one ]
  | inr one ↦ one ∙ sym (there one)
]

-- two sets with the same members are equal
pub same_members : (a b : ℕ) → ((n : ℕ) → Has a n ↔ Has b n) → a ≡ b
same_members a b h = same_from_bits a b (λ n. same_bit a b n (h n).0 (h n).1)
