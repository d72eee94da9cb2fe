-- The seal of a journal names all of it.
use Rattle.std.proofs.Common.{◌≡◌, ◌⊎◌, inl, inr, ℕ, zero, suc, List, [], ◌∷◌, ◌++◌, length, take, drop, refl, sym, ap, ◌∙◌, arith, bytes_eq, length-append}
use Rattle.std.proofs.lemmas.List.{take_at, drop_at}
use Rattle.std.proofs.lemmas.Bool.{cases_Bool}
use Rattle.std.proofs.lemmas.Bool.Decides.{not_from_Decides}
use Rattle.std.proofs.lemmas.Slice.Eq.{bytes_eq-Decides}
use Rattle.sealed_log.specs.Names.{HasClash}
use Rattle.sealed_log.specs.Sealed.{no_seal, seal_on, seal_of}
use Rattle.sealed_log.proofs.SealFacts.{last_seal-push, length-last_seal, length-no_seal}

-- a list is empty, or it has a last element
record Last {A : Type 0} (xs : List A) : Type 0 where
  init : List A
  last : A
  is : xs ≡ init ++ last ∷ []

last_of : {A : Type 0} (xs : List A) → (xs ≡ []) ⊎ Last xs
last_of [] = inl refl
last_of {A} (x ∷ xs) = elim (last_of xs) [
  | inl none ↦ inr (record { init = []; last = x; is = ap (λ (l : List A). x ∷ l) none })
  | inr some ↦ inr (record { init = x ∷ some.init; last = some.last; is = ap (λ (l : List A). x ∷ l) some.is })
]

seal_is : (bodies init : List (List ℕ)) (last : List ℕ) → bodies ≡ init ++ last ∷ [] → seal_of bodies ≡ seal_on (seal_of init) last
seal_is bodies init last is = ap seal_of is ∙ last_seal-push no_seal init last

length-seal_of : (bodies : List (List ℕ)) → length (seal_of bodies) ≡ 64
length-seal_of bodies = length-last_seal no_seal bodies length-no_seal

-- one message, split at one place
same_parts : (p q a b : List ℕ) → length p ≡ 64 → length q ≡ 64 → p ++ a ≡ q ++ b → (p ≡ q) × (a ≡ b)
same_parts p q a b first second same = (
  sym (take_at p a 64 first) ∙ ap (take 64) same ∙ take_at q b 64 second,
  sym (drop_at p a 64 first) ∙ ap (drop 64) same ∙ drop_at q b 64 second,
)

preimage : (prior body : List ℕ) → seal_on prior body ≡ no_seal → HasClash
unfolding seal_on
preimage prior body is = inr (prior ++ body, is)

same_seal : (p q a b : List ℕ) → length p ≡ 64 → length q ≡ 64 → seal_on p a ≡ seal_on q b → ((p ≡ q) × (a ≡ b)) ⊎ HasClash
unfolding seal_on
same_seal p q a b first second same =
    let decides = bytes_eq-Decides (p ++ a) (q ++ b) in
    elim (cases_Bool (bytes_eq (p ++ a) (q ++ b))) [
      | inl is ↦ inl (same_parts p q a b first second (decides.0 is))
      | inr is_not ↦ inr (inl (p ++ a, q ++ b, record { differ = not_from_Decides (bytes_eq (p ++ a) (q ++ b)) decides is_not; same = same }))
    ]

names : (n : ℕ) (a b : List (List ℕ)) → length a ≡ n → seal_of a ≡ seal_of b → (a ≡ b) ⊎ HasClash
names zero a b size same = elim (last_of b) [
  | inl none ↦ elim (last_of a) [
    | inl no_a ↦ inl (no_a ∙ sym none)
    | inr some ↦ absurd (omega (arith, ap length some.is, length-append some.init (some.last ∷ []), size))
  ]
  | inr other ↦ elim (last_of a) [
    | inl no_a ↦ inr (preimage (seal_of other.init) other.last (sym (seal_is b other.init other.last other.is) ∙ sym same ∙ ap seal_of no_a))
    | inr some ↦ absurd (omega (arith, ap length some.is, length-append some.init (some.last ∷ []), size))
  ]
]
names (suc n) a b size same = elim (last_of a) [
  | inl no_a ↦ absurd (omega (arith, ap length no_a, size))
  | inr some ↦ elim (last_of b) [
    | inl none ↦ inr (preimage (seal_of some.init) some.last (sym (seal_is a some.init some.last some.is) ∙ same ∙ ap seal_of none))
    | inr other ↦
        let seals = sym (seal_is a some.init some.last some.is) ∙ same ∙ seal_is b other.init other.last other.is in
        elim (same_seal (seal_of some.init) (seal_of other.init) some.last other.last (length-seal_of some.init) (length-seal_of other.init) seals) [
          | inl equal ↦
              let shorter : length some.init ≡ n = omega (arith, ap length some.is, length-append some.init (some.last ∷ []), size) in
              elim (names n some.init other.init shorter equal.0) [
                | inl init ↦ inl (some.is ∙ ap (λ (l : List (List ℕ)). l ++ some.last ∷ []) init
                    ∙ ap (λ (b : List ℕ). other.init ++ b ∷ []) equal.1 ∙ sym other.is)
                | inr clash ↦ inr clash
              ]
          | inr clash ↦ inr clash
        ]
  ]
]

pub seal_names_all : (a b : List (List ℕ)) → seal_of a ≡ seal_of b → (a ≡ b) ⊎ HasClash
seal_names_all a b same = names (length a) a b refl same
