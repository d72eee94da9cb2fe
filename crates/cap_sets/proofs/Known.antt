-- Numbers whose bits are all among those of the 41 capabilities.
use Rattle.std.proofs.Common.{◌≡◌, ◌∙◌, ℕ, ◌-◌, ◌%◌, ◌^◌, ◌<◌, inl, inr, refl, sym, arith, lt-ltb, le-ltb}
use Rattle.std.proofs.Math.Pow.{pow_pos}
use Rattle.std.proofs.Math.Nat.{mod-lt, mod-eq_of_lt}
use Rattle.std.proofs.lemmas.Nat.{and_mask}
use Rattle.std.proofs.lemmas.Nat.Bits.{bit_at_above, bit_at_ones}
use Rattle.std.proofs.lemmas.Bool.{cases_lt}
use Rattle.std.specs.Int.RustNames.{bit_and}
use Rattle.std.specs.Prelude.{Option, Some, None, nat_lt, if◌then◌else◌}
use Rattle.bitflags.proofs.OnLiterals.{bitflags_on_literals}
use Rattle.bitflags.specs.Sets.{known_bits}
use Rattle.cap_sets.specs.Capability.{Has, cap_table}
use Rattle.cap_sets.proofs.Bits.{same_members, both_from_and, and_from_both}

-- what is in a set of capabilities is one of the 41
pub has_known : (caps n : ℕ) → caps < 2 ^ 41 → Has caps n → n < 41
has_known caps n small h = elim (cases_lt n 41) [ inl lt ↦ lt | inr ge ↦ let none = bit_at_above caps 41 n small ge in absurd (omega arith) ]

-- a number that the low k bits keep is below 2 ^ k
pub below_from_mask : (n k : ℕ) → bit_and n (2 ^ k - 1) ≡ n → n < 2 ^ k
below_from_mask n k e = let p = pow_pos k in let m : n % 2 ^ k ≡ n = sym (and_mask n k) ∙ e in omega (arith, mod-lt n p)

-- a number below 2 ^ k is kept by the low k bits
mask_from_below : (n k : ℕ) → n < 2 ^ k → bit_and n (2 ^ k - 1) ≡ n
mask_from_below n k lt = and_mask n k ∙ mod-eq_of_lt lt

-- a number none of whose bits is above 40 is kept by the mask of the 41
pub kept_from_members : (bits : ℕ) → ((n : ℕ) → Has bits n → n < 41) → bit_and bits (2 ^ 41 - 1) ≡ bits
kept_from_members bits known =
    same_members (bit_and bits (2 ^ 41 - 1)) bits (λ n. (
      λ has. (both_from_and bits (2 ^ 41 - 1) n has).0,
      λ has. and_from_both bits (2 ^ 41 - 1) n (has, bit_at_ones 41 n (known n has)),
    ))

-- the bits of all rows of the table
pub known_all : known_bits cap_table ≡ 2 ^ 41 - 1
unfolding bitflags_on_literals
known_all = refl

-- the answer where the mask keeps the number, and where it does not
pub accepted : (n : ℕ) → n < 2 ^ 41 → ◌≡◌ {A = Option ℕ} (Some n) (if nat_lt n (2 ^ 41) then Some n else None)
accepted n lt = rw (lt-ltb n (2 ^ 41) lt) refl

pub refused : (n : ℕ) → (bit_and n (2 ^ 41 - 1) ≡ n → ⊥) → ◌≡◌ {A = Option ℕ} None (if nat_lt n (2 ^ 41) then Some n else None)
refused n h = elim (cases_lt n (2 ^ 41)) [ inl lt ↦ absurd (h (mask_from_below n 41 lt)) | inr ge ↦ rw (le-ltb n (2 ^ 41) ge) refl ]
