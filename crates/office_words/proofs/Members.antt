-- Lists that have each member once.
use Rattle.std.proofs.Common.{◌⊎◌, inl, inr, ◌≡◌, ◌<◌, ℕ, zero, suc, List, [], ◌∷◌, ◌++◌, length, get_or, refl, sym, ap, subst, arith}
use Rattle.std.specs.List.{Contains}
use Rattle.std.specs.List.Sorted.{IsPermutation}
use Rattle.std.proofs.lemmas.List.Sorted.{IsPermutation-refl, IsPermutation-cons, IsPermutation-sym, IsPermutation-trans, IsPermutation-middle}

-- membership, by recursion
abbrev pub Has : {X : Type 0} → List X → X → Type 0
Has [] x = ⊥
Has (y ∷ ys) x = (x ≡ y) ⊎ Has ys x

-- no member stands twice
abbrev pub AreOnce : {X : Type 0} → List X → Type 0
AreOnce [] = Unit {0}
AreOnce (x ∷ xs) = (Has xs x → ⊥) × AreOnce xs

neither : (P Q : Type 0) → (P → ⊥) → (Q → ⊥) → P ⊎ Q → ⊥
neither P Q p q (inl h) = p h
neither P Q p q (inr h) = q h

second : (P Q : Type 0) → (P → ⊥) → P ⊎ Q → Q
second P Q p (inl h) = absurd (p h)
second P Q p (inr h) = h

module _ {X : Type 0} where
  pub has_contained : (xs : List X) (x : X) → Contains xs x → Has xs x
  has_contained [] x (k, below, is) = absurd (omega arith)
  has_contained (y ∷ xs) x (zero, below, is) = inl (sym is)
  has_contained (y ∷ xs) x (suc k, below, is) = inr (has_contained xs x (k, omega arith, is))

  pub place_of : (xs : List X) (x : X) → Has xs x → (j : ℕ) × (j < length xs) × ((d : X) → get_or xs j d ≡ x)
  place_of [] x none = absurd none
  place_of (y ∷ xs) x (inl is) = (0, omega arith, λ d. sym is)
  place_of (y ∷ xs) x (inr more) = let it = place_of xs x more in (suc it.0, omega arith, it.2)

  pub contains_had : (xs : List X) (x : X) → Has xs x → Contains xs x
  contains_had xs x h = let it = place_of xs x h in (it.0, it.1, it.2 x)

  -- a list of which no earlier one is a later one has each once
  record IsSplit (x : X) (ys : List X) : Type 0 where
    before : List X
    after : List X
    is : ys ≡ before ++ x ∷ after

  split_at : (ys : List X) (x : X) → Has ys x → IsSplit x ys
  split_at [] x none = absurd none
  split_at (y ∷ ys) x (inl is) = record { before = []; after = ys; is = λ i. sym is i ∷ ys }
  split_at (y ∷ ys) x (inr more) = let it = split_at ys x more in record { before = y ∷ it.before; after = it.after; is = ap (λ l. y ∷ l) it.is }

  in_whole : (us vs : List X) (x z : X) → Has (us ++ vs) z → Has (us ++ x ∷ vs) z
  in_whole [] vs x z h = inr h
  in_whole (u ∷ us) vs x z (inl is) = inl is
  in_whole (u ∷ us) vs x z (inr more) = inr (in_whole us vs x z more)

  in_middle : (us vs : List X) (x : X) → Has (us ++ x ∷ vs) x
  in_middle [] vs x = inl refl
  in_middle (u ∷ us) vs x = inr (in_middle us vs x)

  later : (u x z : X) (P : Type 0) → (z ≡ x) ⊎ P → (z ≡ x) ⊎ ((z ≡ u) ⊎ P)
  later u x z P (inl is) = inl is
  later u x z P (inr h) = inr (inr h)

  in_rest : (us vs : List X) (x z : X) → Has (us ++ x ∷ vs) z → (z ≡ x) ⊎ Has (us ++ vs) z
  in_rest [] vs x z h = h
  in_rest (u ∷ us) vs x z (inl is) = inr (inl is)
  in_rest (u ∷ us) vs x z (inr more) = later u x z (Has (us ++ vs) z) (in_rest us vs x z more)

  once_rest : (us vs : List X) (x : X) → AreOnce (us ++ x ∷ vs) → (Has (us ++ vs) x → ⊥) × AreOnce (us ++ vs)
  once_rest [] vs x once = once
  once_rest (u ∷ us) vs x once =
      let it = once_rest us vs x once.1 in (
        neither (x ≡ u) (Has (us ++ vs) x) (λ is. once.0 (subst (Has (us ++ x ∷ vs)) is (in_middle us vs x))) it.0,
        ((λ h. once.0 (in_whole us vs x u h)), it.1),
      )

  -- two lists with the same members, each once, are one list in two orders
  pub same_members : (xs ys : List X) → AreOnce xs → AreOnce ys → ((z : X) → Has xs z → Has ys z) → ((z : X) → Has ys z → Has xs z) → IsPermutation xs ys
  same_members [] [] p q to from = IsPermutation-refl []
  same_members [] (y ∷ ys) p q to from = absurd (from y (inl refl))
  same_members (x ∷ xs) ys p q to from =
      let it = split_at ys x (to x (inl refl)) in
      let once = once_rest it.before it.after x (subst AreOnce it.is q) in
      let rest = same_members xs (it.before ++ it.after) p.1 once.1
      (λ z h. second (z ≡ x) (Has (it.before ++ it.after) z) (λ is. p.0 (subst (Has xs) is h)) (in_rest it.before it.after x z (subst (λ l. Has l z) it.is (to z (inr h)))))
      (λ z h. second (z ≡ x) (Has xs z) (λ is. once.0 (subst (Has (it.before ++ it.after)) is h)) (from z (subst (λ l. Has l z) (sym it.is) (in_whole it.before it.after x z h)))) in
      subst (IsPermutation (x ∷ xs)) (sym it.is)
      (IsPermutation-trans _ _ _ (IsPermutation-cons x _ _ rest) (IsPermutation-sym _ _ (IsPermutation-middle it.before x it.after)))
