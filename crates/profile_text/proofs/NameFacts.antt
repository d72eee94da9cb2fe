-- The set of a list of names is the set that the list stands for.
use Rattle.std.proofs.Common.{◌≡◌, ◌∙◌, ℕ, ◌^◌, inl, inr, refl, sym, subst, arith}
use Rattle.std.proofs.lemmas.Bool.{cases_eq}
use Rattle.std.proofs.lemmas.Nat.Bits.{bit_at-pow_same, bit_at-pow_other, bit_at-zero, same_from_bits}
use Rattle.std.specs.Prelude.{◌↔◌}
use Rattle.std.specs.Int.{bit_at}
use Rattle.serde_json.specs.Data.{Data, null, boolean, number, string, array, object, Items, no_items, item}
use Rattle.cap_sets.specs.Capability.{Has}
use Rattle.cap_sets.proofs.Bits.{either_from_or, or_from_either, cases_bit}
use Rattle.profile_text.specs.Reads.{Names, AllName, SomeNames, ListsSet}
use Rattle.profile_text.specs.Sets.{cap_of, caps_of}

pub named_is : (d : Data) (n : ℕ) → Names d n → cap_of d ≡ 2 ^ n
named_is (string s) n h = rw h refl
named_is null n h = absurd h
named_is (boolean b) n h = absurd h
named_is (number x) n h = absurd h
named_is (array ds) n h = absurd h
named_is (object ms) n h = absurd h

single_has : (m n : ℕ) → Has (2 ^ m) n → m ≡ n
single_has m n h = elim (cases_eq n m) as (λ _. m ≡ n) [ inl same ↦ sym same | inr other ↦ let none = bit_at-pow_other m n other in absurd (omega arith) ]

none_empty : (n : ℕ) → Has 0 n → ⊥
none_empty n h = let zero_bit = bit_at-zero n in omega arith

has_named : (ds : Items) (n : ℕ) → AllName ds → Has (caps_of ds) n → SomeNames ds n
unfolding caps_of
has_named no_items n all h = absurd (none_empty n h)
has_named (item d ds) n all h =
    elim (either_from_or (cap_of d) (caps_of ds) n h) as (λ _. SomeNames (item d ds) n) [
      | inl here ↦ let bit : Has (2 ^ all.0.0) n = subst (λ (x : ℕ). Has x n) (named_is d all.0.0 all.0.1) here in inl (subst (Names d) (single_has all.0.0 n bit) all.0.1)
      | inr later ↦ inr (has_named ds n all.1 later)
    ]

named_has : (ds : Items) (n : ℕ) → SomeNames ds n → Has (caps_of ds) n
unfolding caps_of
named_has no_items n h = absurd h
named_has (item d ds) n (inl here) =
    let bit : Has (cap_of d) n = subst (λ (x : ℕ). Has x n) (sym (named_is d n here)) (bit_at-pow_same n) in
    or_from_either (cap_of d) (caps_of ds) n (inl bit)
named_has (item d ds) n (inr later) = or_from_either (cap_of d) (caps_of ds) n (inr (named_has ds n later))

pub lists_own_set : (ds : Items) → AllName ds → ListsSet ds (caps_of ds)
lists_own_set ds all = (all, λ n. (has_named ds n all, named_has ds n))

same_sets : (a b : ℕ) → ((n : ℕ) → Has a n ↔ Has b n) → a ≡ b
same_sets a b h = same_from_bits a b (λ i. elim (cases_bit a i) as (λ _. bit_at a i ≡ bit_at b i) [
  | inr one ↦ one ∙ sym ((h i).0 one)
  | inl none ↦ elim (cases_bit b i) as (λ _. bit_at a i ≡ bit_at b i) [ inl also ↦ none ∙ sym also | inr one ↦ let other = (h i).1 one in omega arith ]
])

pub listed_set : (ds : Items) (caps : ℕ) → ListsSet ds caps → caps_of ds ≡ caps
listed_set ds caps h = same_sets (caps_of ds) caps (λ n. (λ a. (h.1 n).1 (has_named ds n h.0 a), λ b. named_has ds n ((h.1 n).0 b)))
