-- A permutation of what a function makes of a list is what it makes of a permutation of that list.
use Rattle.std.proofs.Common.{◌≡◌, ℕ, ◌<◌, List, [], ◌∷◌, ◌++◌, map, Bool, true, false, not, cond, length, refl, sym, ap, ◌∙◌, subst}
use Rattle.std.specs.Prelude.{filter}
use Rattle.std.specs.List.{swap}
use Rattle.std.specs.List.Sorted.{IsPermutation}
use Rattle.std.proofs.Math.ListN.{get_or, set, length-map, get_or-map}
use Rattle.std.proofs.lemmas.List.{map-set, map-append}
use Rattle.std.proofs.lemmas.List.Sorted.{IsPermutation-refl, IsPermutation-trans, IsPermutation-sym, IsPermutation-map, IsPermutation-swap, IsPermutation-keeps, IsPermutation-filter_both}

module _ {X Y : Type 0} (f : X → Y) where
  map_swap : (xs : List X) (i j : ℕ) → map f (swap xs i j) ≡ swap (map f xs) i j
  map_swap [] i j = refl
  map_swap (d ∷ ys) i j = map-set f (set (d ∷ ys) i (get_or (d ∷ ys) j d)) j (get_or (d ∷ ys) i d)
      ∙ (λ k. set ((map-set f (d ∷ ys) i (get_or (d ∷ ys) j d) ∙ ap (set (map f (d ∷ ys)) i) (sym (get_or-map f (d ∷ ys) j d))) k) j (sym (get_or-map f (d ∷ ys) i d) k))

  pub record IsMapped (xs : List X) (ys : List Y) : Type 0 where
    pub from : List X
    pub is : ys ≡ map f from
    pub same : IsPermutation xs from

  pub permuted_map : (xs : List X) (ys : List Y) → IsPermutation (map f xs) ys → IsMapped xs ys
  permuted_map xs ys same =
      IsPermutation-keeps (map f xs) (IsMapped xs) (record { from = xs; is = refl; same = IsPermutation-refl xs })
      (λ l i j below_i below_j it.
      let i_in : i < length it.from = subst (λ n. i < n) (length-map it.from f) (subst (λ l. i < length l) it.is below_i) in
      let j_in : j < length it.from = subst (λ n. j < n) (length-map it.from f) (subst (λ l. j < length l) it.is below_j) in
      record { from = swap it.from i j; is = ap (λ l. swap l i j) it.is ∙ sym (map_swap it.from i j); same = IsPermutation-trans _ _ _ it.same (IsPermutation-swap it.from (swap it.from i j) i j i_in j_in refl) })
      ys same

module _ {X : Type 0} (passes : X → Bool) (change : X → X) where
  -- an entry that passes is changed
  abbrev pub changed_if : X → X
  changed_if x = cond (passes x) (change x) x

  passed_changed : (xs : List X) → map changed_if (filter passes xs) ≡ map change (filter passes xs)
  passed_changed [] = refl
  passed_changed (x ∷ xs) = go (passes x) refl (passed_changed xs)
    where
      go : (b : Bool) → passes x ≡ b → map changed_if (filter passes xs) ≡ map change (filter passes xs)
          → map changed_if (cond b (x ∷ filter passes xs) (filter passes xs)) ≡ map change (cond b (x ∷ filter passes xs) (filter passes xs))
      go true e more = λ i. cond (e i) (change x) x ∷ more i
      go false e more = more

  others_same : (xs : List X) → map changed_if (filter (λ x. not (passes x)) xs) ≡ filter (λ x. not (passes x)) xs
  others_same [] = refl
  others_same (x ∷ xs) = go (passes x) refl (others_same xs)
    where
      go : (b : Bool) → passes x ≡ b → map changed_if (filter (λ x. not (passes x)) xs) ≡ filter (λ x. not (passes x)) xs
          → map changed_if (cond (not b) (x ∷ filter (λ x. not (passes x)) xs) (filter (λ x. not (passes x)) xs)) ≡ cond (not b) (x ∷ filter (λ x. not (passes x)) xs) (filter (λ x. not (passes x)) xs)
      go true e more = more
      go false e more = λ i. cond (e i) (change x) x ∷ more i

  pub changed_are : (xs : List X) → IsPermutation (map change (filter passes xs) ++ filter (λ x. not (passes x)) xs) (map changed_if xs)
  changed_are xs =
      let parts = IsPermutation-map changed_if _ _ (IsPermutation-sym _ _ (IsPermutation-filter_both passes (λ x. not (passes x)) (λ x. refl) xs)) in
      subst (λ l. IsPermutation l (map changed_if xs)) (map-append changed_if (filter passes xs) (filter (λ x. not (passes x)) xs) ∙ (λ i. passed_changed xs i ++ others_same xs i)) parts
