-- The names of the members of a set, one after another.
use Rattle.std.proofs.Common.{◌≡◌, ◌∙◌, ℕ, ◌+◌, ◌<◌, ◌≤◌, drop, List, [], ◌∷◌, true, false, zero, suc, map, get_or, Option, Some, length, refl, sym, ap, arith, ne_eqb, eq-eqb, ◌⊎◌, inl, inr, add-zero, zero-add}
use Rattle.std.specs.Prelude.{◌↔◌, option_map, ◌==◌, slice_get}
use Rattle.std.proofs.lemmas.List.{drop_more, drop_all, length-map}
use Rattle.std.proofs.lemmas.Option.{slice_get_within, slice_get-get_or, slice_get-map}
use Rattle.std.specs.Int.{bit_at}
use Rattle.cap_sets.specs.Capability.{names_from, names_left, rows_from, cap_names, cap_table, Has, IsNamed, names_of}
use Rattle.cap_sets.proofs.Bits.{cases_bit}
use Rattle.std.specs.List.{Contains}

-- the rows have the names in their order
row_name : (n : ℕ) (names : List (List ℕ)) (i : ℕ) → slice_get names i ≡ option_map (λ (r : List ℕ × ℕ). r.0) (slice_get (rows_from n names) i)
row_name n [] i = refl
row_name n (name ∷ names) zero = refl
row_name n (name ∷ names) (suc i) = row_name (n + 1) names i

-- the name of the flag at a place
pub flag_name : {X : Type 0} (view : X → List ℕ × ℕ) (flags : List X) (i : ℕ) (d : X) → map view flags ≡ cap_table → i < 41 → slice_get cap_names i ≡ Some (view (get_or flags i d)).0
flag_name view flags i d e lt =
    let size : length flags ≡ 41 = sym (length-map flags view) ∙ ap length e in
    row_name 0 cap_names i ∙ ap (λ rows. option_map (λ (r : List ℕ × ℕ). r.0) (slice_get rows i)) (sym e)
    ∙ ap (option_map (λ (r : List ℕ × ℕ). r.0)) (slice_get-map view flags i ∙ ap (option_map view) (slice_get-get_or flags i d (omega arith)))

-- the names from one place on
from_here : (names : List (List ℕ)) (i : ℕ) (name : List ℕ) → slice_get names i ≡ Some name → drop i names ≡ name ∷ drop (i + 1) names
from_here names i name e =
    let here : drop i names ≡ get_or names i [] ∷ drop (i + 1) names = drop_more names i [] (slice_get_within names i name e) in
    let same : ◌≡◌ {A = Option (List ℕ)} (Some name) (Some (get_or names i [])) = sym e ∙ slice_get-get_or names i [] (slice_get_within names i name e) in
    cc

-- the next name is that of a member
pub names_hit : (i caps : ℕ) (name : List ℕ) → slice_get cap_names i ≡ Some name → (bit_at caps i == 1) ≡ true → names_left i caps ≡ name ∷ names_left (i + 1) caps
unfolding names_from
names_hit i caps name e test = rw (from_here cap_names i name e, test) refl

-- a capability that is no member is passed over
pub names_miss : (i caps : ℕ) → i < 41 → (bit_at caps i == 1) ≡ false → names_left i caps ≡ names_left (i + 1) caps
unfolding names_from
names_miss i caps lt test = rw (drop_more cap_names i [] lt, test) refl

-- past the last capability no name is left
pub names_end : (i caps : ℕ) → 41 ≤ i → names_left i caps ≡ []
unfolding names_from
names_end i caps ge = rw (drop_all i cap_names ge) refl

-- a member's name is listed, and no other capability's
names_from-hit : (n : ℕ) (first : List ℕ) (names : List (List ℕ)) (caps : ℕ) → Has caps n → names_from n (first ∷ names) caps ≡ first ∷ names_from (n + 1) names caps
unfolding names_from
names_from-hit n first names caps one = rw (eq-eqb (bit_at caps n) 1 one) refl

names_from-miss : (n : ℕ) (first : List ℕ) (names : List (List ℕ)) (caps : ℕ) → bit_at caps n ≡ 0 → names_from n (first ∷ names) caps ≡ names_from (n + 1) names caps
unfolding names_from
names_from-miss n first names caps none = rw (ne_eqb (bit_at caps n) 1 (omega arith)) refl

-- what a list with one more name contains
contains_head_or_tail : (first : List ℕ) (rest : List (List ℕ)) (name : List ℕ) → Contains (first ∷ rest) name → (first ≡ name) ⊎ Contains rest name
contains_head_or_tail first rest name (zero, lt, at) = inl at
contains_head_or_tail first rest name (suc k, lt, at) = inr (k, omega arith, at)

contains_head : (first : List ℕ) (rest : List (List ℕ)) (name : List ℕ) → first ≡ name → Contains (first ∷ rest) name
contains_head first rest name same = (zero, omega arith, same)

contains_tail : (first : List ℕ) (rest : List (List ℕ)) (name : List ℕ) → Contains rest name → Contains (first ∷ rest) name
contains_tail first rest name (k, lt, at) = (suc k, omega arith, at)

-- the name of a member, where the first of these names has number n
abbrev IsMemberName : ℕ → List (List ℕ) → ℕ → List ℕ → Type 0
IsMemberName n names caps name = (i : ℕ) × (slice_get names i ≡ Some name) × Has caps (n + i)

-- a member's name among the later names is one among all
member_name-tail : (n : ℕ) (first : List ℕ) (names : List (List ℕ)) (caps : ℕ) (name : List ℕ) → IsMemberName (n + 1) names caps name → IsMemberName n (first ∷ names) caps name
member_name-tail n first names caps name (i, at, has) =
    let place : n + suc i ≡ n + 1 + i = omega arith in
    (suc i, at, rw place has)

-- what is listed is a member's name, and the other way round
from_listed : (n : ℕ) (names : List (List ℕ)) (caps : ℕ) (name : List ℕ) → Contains (names_from n names caps) name → IsMemberName n names caps name
unfolding names_from
from_listed n [] caps name (k, lt, at) = absurd (omega arith)
from_listed n (first ∷ names) caps name listed = elim (cases_bit caps n) [
  | inl none ↦ member_name-tail n first names caps name (from_listed (n + 1) names caps name (rw (names_from-miss n first names caps none) at listed))
  | inr one ↦ elim (contains_head_or_tail first (names_from (n + 1) names caps) name (rw (names_from-hit n first names caps one) at listed)) [
    | inl same ↦ (zero, ap (λ x. Some x) same, rw (add-zero n) one)
    | inr later ↦ member_name-tail n first names caps name (from_listed (n + 1) names caps name later)
  ]
]

to_listed : (n : ℕ) (names : List (List ℕ)) (caps : ℕ) (name : List ℕ) → IsMemberName n names caps name → Contains (names_from n names caps) name
to_listed n [] caps name (i, at, has) = cc
to_listed n (first ∷ names) caps name (zero, at, has) =
    let one : Has caps n = rw (add-zero n) at has in
    let same : first ≡ name = cc in
    rw (names_from-hit n first names caps one) (contains_head first _ name same)
to_listed n (first ∷ names) caps name (suc i, at, has) =
    let place : n + suc i ≡ n + 1 + i = omega arith in
    let later = to_listed (n + 1) names caps name (i, at, rw place at has) in
    elim (cases_bit caps n) [
      | inl none ↦ rw (names_from-miss n first names caps none) later
      | inr one ↦ rw (names_from-hit n first names caps one) (contains_tail first _ name later)
    ]

-- the names of a set are those of its members
pub names_of-members : (caps : ℕ) (name : List ℕ) → Contains (names_of caps) name ↔ ((n : ℕ) × IsNamed n name × Has caps n)
names_of-members caps name = (
  λ listed. let (i, at, has) = from_listed 0 cap_names caps name listed in (i, at, rw (zero-add i) at has),
  λ (n, at, has). to_listed 0 cap_names caps name (n, at, rw (zero-add n) has),
)
