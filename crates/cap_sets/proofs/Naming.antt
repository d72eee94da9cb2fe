-- Looking a name up in the table, and the number that it has there.
use Rattle.std.proofs.Common.{◌≡◌, ℕ, ◌+◌, ◌^◌, ◌<◌, List, [], ◌∷◌, true, false, zero, suc, Option, Some, None, cond, length, refl, sym, ap, arith, ne_eqb, ◌≢◌}
use Rattle.std.specs.Prelude.{nat_eq, option_map, slice_get}
use Rattle.std.specs.Cmp.Lexicographic.{pointwise, same_text, other_text}
use Rattle.std.proofs.lemmas.Nat.{pow_below}
use Rattle.bitflags.specs.Sets.{find_row, find_name}
use Rattle.cap_sets.specs.Capability.{rows_from, number_from, number_named, cap_names, cap_table, single, IsNamed}
use Rattle.cap_sets.proofs.Searches.{passed_over}

-- a row of the table is found by its name as its number is
find_row_number : (n : ℕ) (names : List (List ℕ)) (name : List ℕ) → find_row (rows_from n names) name ≡ option_map single (number_from n names name)
unfolding find_row number_from
find_row_number n [] name = refl
find_row_number n (first ∷ names) name =
    elim (pointwise nat_eq first name) as (λ b. cond b (Some (2 ^ n)) (find_row (rows_from (n + 1) names) name) ≡ option_map single (cond b (Some n) (number_from (n + 1) names name))) [
      | true ↦ refl
      | false ↦ find_row_number (n + 1) names name
    ]

-- no capability has the empty name
unnamed : number_named [] ≡ None
unfolding number_from
unnamed = refl

-- the table is searched for a name as the numbers are
pub find_number : (name : List ℕ) → find_name cap_table name ≡ option_map single (number_named name)
find_number [] = sym (ap (option_map single) unnamed)
find_number (x ∷ rest) = let some : length (x ∷ rest) ≢ 0 = omega arith in rw (ne_eqb (length (x ∷ rest)) 0 some) (find_row_number 0 cap_names (x ∷ rest))

-- the number of a name is one of those of the names
number_below : (n : ℕ) (names : List (List ℕ)) (name : List ℕ) (k : ℕ) → number_from n names name ≡ Some k → k < n + length names
unfolding number_from
number_below n [] name k e = cc
number_below n (first ∷ names) name k e =
    (elim (pointwise nat_eq first name) as (λ b. cond b (Some n) (number_from (n + 1) names name) ≡ Some k → k < n + length (first ∷ names)) [
      | true ↦ λ e. let same : n ≡ k = cc in omega arith
      | false ↦ λ e. let rest = number_below (n + 1) names name k e in omega arith
    ]) e

-- the set of a number found is one of the 41
single_below : (found : Option ℕ) (bits : ℕ) → Some bits ≡ option_map single found → ((k : ℕ) → found ≡ Some k → k < 41) → bits < 2 ^ 41
single_below None bits e h = cc
single_below (Some k) bits e h = let small = pow_below k 41 (h k refl) in let same : bits ≡ 2 ^ k = cc in rw same small

-- a named capability is a set of the 41
pub named_below : (name : List ℕ) (bits : ℕ) → Some bits ≡ option_map single (number_named name) → bits < 2 ^ 41
named_below name bits e = single_below (number_named name) bits e (λ k h. number_below 0 cap_names name k h)

-- a number that is found has the name
named_at : (n : ℕ) (names : List (List ℕ)) (name : List ℕ) (k : ℕ) → number_from n names name ≡ Some k → (i : ℕ) × (k ≡ n + i) × (slice_get names i ≡ Some name)
unfolding number_from
named_at n [] name k e = cc
named_at n (first ∷ names) name k e =
    (elim (pointwise nat_eq first name) as (λ b. b ≡ pointwise nat_eq first name → cond b (Some n) (number_from (n + 1) names name) ≡ Some k → (i : ℕ) × (k ≡ n + i) × (slice_get (first ∷ names) i ≡ Some name)) [
      | true ↦ λ test e. let same : first ≡ name = same_text first name test in let here : n ≡ k = cc in (zero, omega arith, ap (λ x. Some x) same)
      | false ↦ λ test e. let later = named_at (n + 1) names name k e in (suc later.0, omega (arith, later.1), later.2)
    ]) refl e

-- a name that is not found is nowhere
nowhere_named : (n : ℕ) (names : List (List ℕ)) (name : List ℕ) → number_from n names name ≡ None → (i : ℕ) → slice_get names i ≢ Some name
unfolding number_from
nowhere_named n [] name e i at = cc
nowhere_named n (first ∷ names) name e zero at =
    let same : first ≡ name = cc in
    other_text first name (sym (passed_over (pointwise nat_eq first name) n (number_from (n + 1) names name) e).0) same
nowhere_named n (first ∷ names) name e (suc i) at =
    nowhere_named (n + 1) names name (passed_over (pointwise nat_eq first name) n (number_from (n + 1) names name) e).1 i at

-- the set of a name is that of the capability that has it
pub single_of_name : (name : List ℕ) (caps : ℕ) → Some caps ≡ option_map single (number_named name) → (n : ℕ) × IsNamed n name × (caps ≡ single n)
single_of_name name caps e = of_number (number_named name) refl e
  where
    of_number : (found : Option ℕ) → number_named name ≡ found → Some caps ≡ option_map single found → (n : ℕ) × IsNamed n name × (caps ≡ single n)
    of_number None is e = cc
    of_number (Some k) is e =
        let (i, place, at) = named_at 0 cap_names name k is in
        let same : k ≡ i = omega (arith, place) in
        (i, at, cc)

-- where no set is found, no capability has the name
pub nobody_named : (name : List ℕ) → None ≡ option_map single (number_named name) → (n : ℕ) → ¬ IsNamed n name
nobody_named name e = of_number (number_named name) refl e
  where
    of_number : (found : Option ℕ) → number_named name ≡ found → ◌≡◌ {A = Option ℕ} None (option_map single found) → (n : ℕ) → ¬ IsNamed n name
    of_number None is e = nowhere_named 0 cap_names name is
    of_number (Some k) is e = cc
