-- Tests of lists, and what a search finds.
use Rattle.std.proofs.Common.{◌≡◌, ◌∙◌, ap, refl, sym, List, [], ◌∷◌, Bool, true, false, cond, ◌||◌, ◌&&◌, Some, None, map, inl, inr}
use Rattle.std.specs.Prelude.{find, filter}
use Rattle.std.specs.List.{list_all, list_any, flat_map}
use Rattle.std.proofs.lemmas.Bool.{cases_Bool, cond-true, cond-false, and_parts, or_cases, or_left, or_right, or_from, or_parts}
use Rattle.std.proofs.lemmas.List.Folds.{list_any-append}

pub or_none : (b : Bool) → (b || false) ≡ b
or_none true = refl
or_none false = refl

pub and_true : (b : Bool) → (b && true) ≡ b
and_true true = refl
and_true false = refl

module _ {X : Type 0} where
  -- what is found passes the test
  pub found_itself : (q : X → Bool) (xs : List X) (x : X) → find q xs ≡ Some x → q x ≡ true
  found_itself q [] x found = cc
  found_itself q (y ∷ ys) x found =
      elim (cases_Bool (q y)) as (λ _. q x ≡ true) [
        | inl here ↦ let same : Some y ≡ Some x = sym (cond-true (q y) (Some y) (find q ys) here) ∙ found in let is : y ≡ x = cc in ap q (sym is) ∙ here
        | inr gone ↦ found_itself q ys x (sym (cond-false (q y) (Some y) (find q ys) gone) ∙ found)
      ]

  -- what is found passes each test that all pass
  pub found_passes : (p q : X → Bool) (xs : List X) (x : X) → find q xs ≡ Some x → list_all p xs ≡ true → p x ≡ true
  found_passes p q [] x found all = cc
  found_passes p q (y ∷ ys) x found all =
      let parts = and_parts (p y) (list_all p ys) all in
      elim (cases_Bool (q y)) as (λ _. p x ≡ true) [
        | inl here ↦ let same : Some y ≡ Some x = sym (cond-true (q y) (Some y) (find q ys) here) ∙ found in let is : y ≡ x = cc in ap p (sym is) ∙ parts.0
        | inr gone ↦ found_passes p q ys x (sym (cond-false (q y) (Some y) (find q ys) gone) ∙ found) parts.1
      ]

  -- where nothing is found none passes
  pub none_passes : (q : X → Bool) (xs : List X) → find q xs ≡ None → list_any q xs ≡ false
  none_passes q [] none = refl
  none_passes q (y ∷ ys) none =
      elim (cases_Bool (q y)) as (λ _. list_any q (y ∷ ys) ≡ false) [
        | inl here ↦ let clash : Some y ≡ None = sym (cond-true (q y) (Some y) (find q ys) here) ∙ none in cc
        | inr gone ↦ or_from (q y) (list_any q ys) gone (none_passes q ys (sym (cond-false (q y) (Some y) (find q ys) gone) ∙ none))
      ]

  -- some element passes a weaker test
  pub list_any-weaker : (p q : X → Bool) → ((x : X) → p x ≡ true → q x ≡ true) → (xs : List X) → list_any p xs ≡ true → list_any q xs ≡ true
  list_any-weaker p q weaker [] some = some
  list_any-weaker p q weaker (x ∷ xs) some =
      elim (or_cases (p x) (list_any p xs) some) as (λ _. list_any q (x ∷ xs) ≡ true) [
        | inl here ↦ or_left (q x) (list_any q xs) (weaker x here)
        | inr later ↦ or_right (q x) (list_any q xs) (list_any-weaker p q weaker xs later)
      ]

  -- a filter keeps nothing just where no element passes
  pub filter-none : (p : X → Bool) (xs : List X) → list_any p xs ≡ false → filter p xs ≡ []
  filter-none p [] none = refl
  filter-none p (x ∷ xs) none =
      let parts = or_parts (p x) (list_any p xs) none in
      cond-false (p x) (x ∷ filter p xs) (filter p xs) parts.0 ∙ filter-none p xs parts.1

  pub list_any-flat_map : {Y : Type 0} (p : X → Bool) (f : Y → List X) (ys : List Y) → list_any p (flat_map f ys) ≡ list_any (λ y. list_any p (f y)) ys
  list_any-flat_map p f [] = refl
  list_any-flat_map p f (y ∷ ys) = list_any-append p (f y) (flat_map f ys) ∙ ap (λ b. list_any p (f y) || b) (list_any-flat_map p f ys)

-- a mapped filter keeps nothing
pub is_empty_map : {X Y : Type 0} (f : X → Y) (p : X → Bool) (xs : List X) → map f (filter p xs) ≡ [] → list_any p xs ≡ false
is_empty_map f p [] none = refl
is_empty_map f p (x ∷ xs) none = elim (p x) as (λ b. map f (cond b (x ∷ filter p xs) (filter p xs)) ≡ [] → (b || list_any p xs) ≡ false) [
  | true ↦ λ e. cc
  | false ↦ λ e. is_empty_map f p xs e
] none
