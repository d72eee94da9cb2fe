-- Unions of sets.
use Rattle.std.proofs.Common.{◌≡◌, ℕ, arith}
use Rattle.std.proofs.lemmas.Nat.Bits.{bit_at_or, same_from_bits}
use Rattle.std.specs.Int.RustNames.{bit_or}

pub or_assoc : (a b c : ℕ) → bit_or (bit_or a b) c ≡ bit_or a (bit_or b c)
or_assoc a b c = same_from_bits _ _ (λ i.
    let left = bit_at_or (bit_or a b) c i in
    let left_part = bit_at_or a b i in
    let right = bit_at_or a (bit_or b c) i in
    let right_part = bit_at_or b c i in
    omega arith)
