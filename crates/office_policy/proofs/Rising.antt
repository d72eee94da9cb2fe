-- Rising lists: two with the same members are one list.
use Rattle.std.proofs.Common.{◌∙◌, Less, Greater, ◌⊎◌, inl, inr, ◌≡◌, ℕ, zero, suc, List, [], ◌∷◌, ◌++◌, length, get_or, refl, sym, ap, subst, arith, ◌<◌}
use Rattle.std.specs.Cmp.{IsTotalOrder}
use Rattle.std.specs.List.{AllPairs, AllByRecursion}
use Rattle.std.specs.List.Sorted.{IsStrictlySortedBy}
use Rattle.std.specs.Ordering.{ordering_reverse}
use Rattle.std.specs.declared.cmp.Ordering.{Ordering}
use Rattle.std.proofs.lemmas.Cmp.{nat_list_cmp_total}
use Rattle.office_words.specs.Lists.{name_cmp}
use Rattle.office_words.proofs.Members.{Has, place_of}

-- a member of a list has what all of it have
all_has : {X : Type 0} (P : X → Type 0) (xs : List X) → AllByRecursion P xs → (x : X) → Has xs x → P x
all_has P [] all x h = absurd h
all_has P (y ∷ ys) all x (inl is) = subst P (sym is) all.0
all_has P (y ∷ ys) all x (inr h) = all_has P ys all.1 x h

-- a member of one list after the other is one of either
pub in_either : {X : Type 0} (xs ys : List X) (z : X) → Has (xs ++ ys) z → Has xs z ⊎ Has ys z
in_either [] ys z h = inr h
in_either (x ∷ xs) ys z (inl is) = inl (inl is)
in_either (x ∷ xs) ys z (inr h) = further (in_either xs ys z h)
  where
    further : Has xs z ⊎ Has ys z → ((z ≡ x) ⊎ Has xs z) ⊎ Has ys z
    further (inl a) = inl (inr a)
    further (inr b) = inr b

module _ {X : Type 0} (Below : X → X → Type 0) where
  -- each member is below all later ones
  abbrev pub IsRising : List X → Type 0
  IsRising [] = Unit {0}
  IsRising (x ∷ xs) = ((y : X) → Has xs y → Below x y) × IsRising xs

  pub rising_pairs : (xs : List X) → AllPairs Below xs → IsRising xs
  rising_pairs [] pairs = tt
  rising_pairs (x ∷ xs) pairs = (
    (λ y h. let it = place_of xs y h in subst (Below x) (it.2 x) (pairs 0 (suc it.0) x (omega arith) (omega arith))),
    rising_pairs xs (λ i j d before below. pairs (suc i) (suc j) d (omega arith) (omega arith)),
  )

  at_place : (xs : List X) (k : ℕ) (d : X) → k < length xs → Has xs (get_or xs k d)
  at_place [] k d below = absurd (omega arith)
  at_place (x ∷ xs) zero d below = inl refl
  at_place (x ∷ xs) (suc k) d below = inr (at_place xs k d (omega arith))

  pub pairs_rising : (xs : List X) → IsRising xs → AllPairs Below xs
  pairs_rising [] rising i j d before below = absurd (omega arith)
  pairs_rising (x ∷ xs) rising i zero d before below = absurd (omega arith)
  pairs_rising (x ∷ xs) rising zero (suc j) d before below = rising.0 (get_or xs j d) (at_place xs j d (omega arith))
  pairs_rising (x ∷ xs) rising (suc i) (suc j) d before below = pairs_rising xs rising.1 i j d (omega arith) (omega arith)

  either : {P Q R : Type 0} → (P → R) → (Q → R) → P ⊎ Q → R
  either f g (inl p) = f p
  either f g (inr q) = g q

  -- one after the other, where all of the first are below all of the second
  pub rising_append : (xs ys : List X) → IsRising xs → IsRising ys → ((x y : X) → Has xs x → Has ys y → Below x y) → IsRising (xs ++ ys)
  rising_append [] ys first second apart = second
  rising_append (x ∷ xs) ys first second apart = (
    (λ y h. either (first.0 y) (apart x y (inl refl)) (in_either xs ys y h)),
    rising_append xs ys first.1 second (λ a b in_a in_b. apart a b (inr in_a) in_b),
  )

  module _ (apart : (a b : X) → Below a b → Below b a → ⊥) where
    first_same : (x y : X) (xs ys : List X) → ((z : X) → Has xs z → Below x z) → ((z : X) → Has ys z → Below y z)
        → (x ≡ y) ⊎ Has ys x → (y ≡ x) ⊎ Has xs y → x ≡ y
    first_same x y xs ys low_x low_y (inl is) there = is
    first_same x y xs ys low_x low_y (inr later) (inl is) = sym is
    first_same x y xs ys low_x low_y (inr later) (inr there) = absurd (apart x y (low_x y there) (low_y x later))

    others : (x : X) (xs ys : List X) → ((z : X) → Has xs z → Below x z) → ((z : X) → Has (x ∷ xs) z → Has (x ∷ ys) z) → (z : X) → Has xs z → Has ys z
    others x xs ys low to z h = later (to z (inr h))
      where
        later : (z ≡ x) ⊎ Has ys z → Has ys z
        later (inl is) = let self = subst (Below x) is (low z h) in absurd (apart x x self self)
        later (inr more) = more

    pub same_rising : (xs ys : List X) → IsRising xs → IsRising ys → ((z : X) → Has xs z → Has ys z) → ((z : X) → Has ys z → Has xs z) → xs ≡ ys
    same_rising [] [] p q to from = λ _. []
    same_rising [] (y ∷ ys) p q to from = absurd (from y (inl refl))
    same_rising (x ∷ xs) [] p q to from = absurd (to x (inl refl))
    same_rising (x ∷ xs) (y ∷ ys) p q to from =
        let is = first_same x y xs ys p.0 q.0 (to x (inl refl)) (from y (inl refl)) in
        let low : (z : X) → Has ys z → Below x z = subst (λ w. (z : X) → Has ys z → Below w z) (sym is) q.0 in
        let there : (z : X) → Has (x ∷ xs) z → Has (x ∷ ys) z = subst (λ w. (z : X) → Has (x ∷ xs) z → Has (w ∷ ys) z) (sym is) to in
        let back : (z : X) → Has (x ∷ ys) z → Has (x ∷ xs) z = subst (λ w. (z : X) → Has (w ∷ ys) z → Has (x ∷ xs) z) (sym is) from in
        let rest = same_rising xs ys p.1 q.1 (others x xs ys p.0 there) (others x ys xs low back) in
        λ i. is i ∷ rest i

-- ---- names

abbrev pub NameBelow : List ℕ → List ℕ → Type 0
NameBelow a b = name_cmp a b ≡ Less

pub names_rising : (names : List (List ℕ)) → IsStrictlySortedBy name_cmp names → IsRising NameBelow names
unfolding IsStrictlySortedBy
names_rising [] sorted = tt
names_rising (name ∷ names) sorted = (all_has (NameBelow name) names sorted.0, names_rising names sorted.1)

-- the same comparison from the other side
pub turned : {X : Type 0} (cmp : X → X → Ordering) → IsTotalOrder cmp → (a b : X) (o : Ordering) → cmp a b ≡ o → cmp b a ≡ ordering_reverse o
turned cmp total a b o is = total.antisymm b a ∙ ap ordering_reverse is

pub names_apart : (a b : List ℕ) → NameBelow a b → NameBelow b a → ⊥
names_apart a b below above = let both : Less ≡ Greater = sym above ∙ turned name_cmp nat_list_cmp_total a b Less below in absurd cc
