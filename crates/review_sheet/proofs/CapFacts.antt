-- The names of a capability's own set, and bits of listed capabilities.
use Rattle.std.proofs.Common.{◌≡◌, ◌∙◌, ◌≢◌, ℕ, ◌+◌, ◌*◌, ◌%◌, ◌<◌, ◌≤◌, ◌^◌, ◌==◌, cond, List, [], ◌∷◌, Option, None, Some, length, sym, ap, refl, arith, lt-ltb}
use Rattle.std.specs.Prelude.{if◌then◌else◌, nat_lt}
use Rattle.std.proofs.Math.Nat.{pow-le-pow_right}
use Rattle.std.proofs.lemmas.Nat.Bits.{bit_at-pow_other}
use Rattle.cap_sets.specs.Capability.{cap_names, names_from, names_of, single}

-- no capability from this number on is named, where the set's one member is above them all
none_named : (number n : ℕ) (names : List (List ℕ)) → n + length names ≤ number → names_from n names (single number) ≡ []
unfolding names_from
none_named number n [] within = refl
none_named number n (name ∷ names) within =
    let below : n ≢ number = λ e. absurd (omega (arith, e, within)) in
    ap (λ b. cond (b == 1) (name ∷ names_from (n + 1) names (single number)) (names_from (n + 1) names (single number))) (bit_at-pow_other number n below)
    ∙ none_named number (n + 1) names (omega (arith, within))

-- a number above 40 is no capability's
pub no_name_above : (number : ℕ) → 41 ≤ number → names_of (single number) ≡ []
no_name_above number above = none_named number 0 cap_names above

-- the set without members has no names
pub no_name_of_none : names_of 0 ≡ []
unfolding names_from
no_name_of_none = refl

-- the bits of a capability from 0 to 40
shifted : (number : ℕ) → number ≤ 40 → 1 * 2 ^ number % 2 ^ 64 ≡ 2 ^ number
shifted number known = let bound : 2 ^ number ≤ 2 ^ 40 = pow-le-pow_right {n = 2} (omega arith) known in omega (arith, bound)

-- bits below 2 ^ 41 are a set
given : (o : Option ℕ) (bits : ℕ) → bits < 2 ^ 41 → o ≡ (if nat_lt bits (2 ^ 41) then Some bits else None) → o ≡ Some bits
given o bits known value = value ∙ ap (λ b. if b then Some bits else None) (lt-ltb bits (2 ^ 41) known)

given_single : (o : Option ℕ) (number : ℕ) → number ≤ 40
    → o ≡ (if nat_lt (1 * 2 ^ number % 2 ^ 64) (2 ^ 41) then Some (1 * 2 ^ number % 2 ^ 64) else None) → o ≡ Some (single number)
given_single o number known value =
    let same : 1 * 2 ^ number % 2 ^ 64 ≡ 2 ^ number = shifted number known in
    let bound : 2 ^ number ≤ 2 ^ 40 = pow-le-pow_right {n = 2} (omega arith) known in
    given o (1 * 2 ^ number % 2 ^ 64) (omega (arith, same, bound)) value ∙ ap Some same

-- the set of a capability's one bit
pub set_of_single : (o : Option ℕ) (number caps : ℕ) → number ≤ 40
    → o ≡ (if nat_lt (1 * 2 ^ number % 2 ^ 64) (2 ^ 41) then Some (1 * 2 ^ number % 2 ^ 64) else None) → o ≡ Some caps → caps ≡ single number
set_of_single o number caps known value is = let same : Some caps ≡ Some (single number) = sym is ∙ given_single o number known value in cc

pub no_set_of_single : (o : Option ℕ) (number : ℕ) (xs ys : List (List ℕ)) → number ≤ 40
    → o ≡ (if nat_lt (1 * 2 ^ number % 2 ^ 64) (2 ^ 41) then Some (1 * 2 ^ number % 2 ^ 64) else None) → o ≡ None → xs ≡ ys
no_set_of_single o number xs ys known value none = let same : None ≡ Some (single number) = sym none ∙ given_single o number known value in cc
