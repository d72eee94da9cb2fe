-- The names of a set stand for the set.
use Rattle.std.proofs.Common.{◌≡◌, ◌≢◌, ◌∙◌, ℕ, ◌+◌, ◌^◌, ◌<◌, ◌≤◌, ◌==◌, inl, inr, List, [], ◌∷◌, map, length, Option, Some, None, Bool, true, false, cond, refl, sym, ap, arith, eqb-true}
use Rattle.std.specs.Prelude.{◌&&◌}
use Rattle.std.specs.Int.{bit_at}
use Rattle.std.proofs.lemmas.Bool.{cases_lt, cases_eq, eqb-false}
use Rattle.std.proofs.lemmas.Nat.Bits.{bit_at_above}
use Rattle.serde_json.specs.Data.{string}
use Rattle.serde_json.specs.View.{items_of}
use Rattle.cap_sets.specs.Capability.{Has, names_from, names_of, number_named, number_from, cap_names}
use Rattle.profile_text.specs.Reads.{AllName, SomeNames, ListsSet}

is_number : Option ℕ → ℕ → Bool
is_number None n = false
is_number (Some m) n = m == n

-- each name has its place as its number, where the first is n
all_numbered : ℕ → List (List ℕ) → Bool
all_numbered n [] = true
all_numbered n (name ∷ names) = is_number (number_named name) n && all_numbered (n + 1) names

number_is : (o : Option ℕ) (n : ℕ) → is_number o n ≡ true → o ≡ Some n
unfolding is_number
number_is None n e = absurd (cc)
number_is (Some m) n e = ap (λ x. Some x) (eqb-true m n e)

both_true : (a b : Bool) → (a && b) ≡ true → (a ≡ true) × (b ≡ true)
both_true true b e = (refl, e)
both_true false b e = absurd (cc)

table_numbered : all_numbered 0 cap_names ≡ true
unfolding all_numbered is_number number_from
table_numbered = refl

same_number : (o : Option ℕ) (m n : ℕ) → o ≡ Some m → o ≡ Some n → m ≡ n
same_number o m n a b = let same : ◌≡◌ {A = Option ℕ} (Some m) (Some n) = sym a ∙ b in cc

all_named : (n : ℕ) (names : List (List ℕ)) (caps : ℕ) → all_numbered n names ≡ true → AllName (items_of (map string (names_from n names caps)))
unfolding names_from all_numbered
all_named n [] caps h = tt
all_named n (name ∷ names) caps h =
    let parts = both_true (is_number (number_named name) n) (all_numbered (n + 1) names) h in
    let rest = all_named (n + 1) names caps parts.1 in
    elim (bit_at caps n == 1) as (λ b. AllName (items_of (map string (cond b (name ∷ names_from (n + 1) names caps) (names_from (n + 1) names caps))))) [
      | true ↦ ((n, number_is (number_named name) n parts.0), rest)
      | false ↦ rest
    ]

some_named_by : (n k : ℕ) (name : List ℕ) (rest : List (List ℕ)) (caps : ℕ) (b : Bool) → number_named name ≡ Some n → (bit_at caps n == 1) ≡ b
    → (SomeNames (items_of (map string rest)) k → Has caps k) → SomeNames (items_of (map string (cond b (name ∷ rest) rest))) k → Has caps k
some_named_by n k name rest caps true number is later (inl here) = let same = same_number (number_named name) n k number here in rw (← same) (eqb-true (bit_at caps n) 1 is)
some_named_by n k name rest caps true number is later (inr there) = later there
some_named_by n k name rest caps false number is later h = later h

some_named : (n k : ℕ) (names : List (List ℕ)) (caps : ℕ) → all_numbered n names ≡ true → SomeNames (items_of (map string (names_from n names caps))) k → Has caps k
unfolding names_from all_numbered
some_named n k [] caps h s = absurd s
some_named n k (name ∷ names) caps h s =
    let parts = both_true (is_number (number_named name) n) (all_numbered (n + 1) names) h in
    some_named_by n k name (names_from (n + 1) names caps) caps (bit_at caps n == 1) (number_is (number_named name) n parts.0) refl (some_named (n + 1) k names caps parts.1) s

named_some_by : (n k : ℕ) (name : List ℕ) (rest : List (List ℕ)) (caps : ℕ) (b : Bool) → number_named name ≡ Some n → (bit_at caps n == 1) ≡ b
    → (k ≢ n → SomeNames (items_of (map string rest)) k) → Has caps k → SomeNames (items_of (map string (cond b (name ∷ rest) rest))) k
named_some_by n k name rest caps true number is later has =
    elim (cases_eq k n) as (λ _. SomeNames (items_of (map string (name ∷ rest))) k) [ inl same ↦ inl (rw same number) | inr other ↦ inr (later other) ]
named_some_by n k name rest caps false number is later has =
    elim (cases_eq k n) as (λ _. SomeNames (items_of (map string rest)) k) [
      | inl same ↦ absurd (eqb-false (bit_at caps n) 1 is (rw same at has))
      | inr other ↦ later other
    ]

named_some : (n k : ℕ) (names : List (List ℕ)) (caps : ℕ) → all_numbered n names ≡ true → n ≤ k → k < n + length names → Has caps k → SomeNames (items_of (map string (names_from n names caps))) k
unfolding names_from all_numbered
named_some n k [] caps h ge lt has = absurd (omega arith)
named_some n k (name ∷ names) caps h ge lt has =
    let parts = both_true (is_number (number_named name) n) (all_numbered (n + 1) names) h in
    named_some_by n k name (names_from (n + 1) names caps) caps (bit_at caps n == 1) (number_is (number_named name) n parts.0) refl
    (λ other. named_some (n + 1) k names caps parts.1 (omega arith) (omega arith) has) has

-- the names of a set of known capabilities list the set
pub names_listed : (caps : ℕ) → caps < 2 ^ 41 → ListsSet (items_of (map string (names_of caps))) caps
names_listed caps known = (
  all_named 0 cap_names caps table_numbered,
  λ k. (
    λ has. elim (cases_lt k 41) as (λ _. SomeNames (items_of (map string (names_of caps))) k) [
      | inl lt ↦ named_some 0 k cap_names caps table_numbered (omega arith) lt has
      | inr ge ↦ let none = bit_at_above caps 41 k known ge in absurd (omega arith)
    ],
    some_named 0 k cap_names caps table_numbered,
  ),
)
