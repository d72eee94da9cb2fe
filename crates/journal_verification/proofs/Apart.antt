-- Of two rising lists of entries, the row that stands first where they differ is of one of them alone.
use Rattle.std.proofs.Common.{inl, inr, ◌≡◌, ◌⊎◌, ℕ, zero, suc, ◌<◌, List, [], ◌∷◌, map, Some, Ordering, Less, Equal, Greater, refl, sym, ap, subst, ◌∙◌, arith}
use Rattle.std.specs.Prelude.{slice_get}
use Rattle.std.specs.Ordering.{ordering_reverse}
use Rattle.std.specs.Cmp.{IsTotalOrder}
use Rattle.sqlite.specs.Order.{Row}
use Rattle.sqlite.proofs.MarkLemmas.{slice_get-take}
use Rattle.sqlite_trees.specs.Tree.{IsAscending}
use Rattle.sqlite_rules.specs.Lists.{Has}
use Rattle.sqlite_rules.proofs.ListLemmas.{all_has}
use Rattle.journal_verification.specs.Differing.{IsNoneBefore, StandsFirst, columns_cmp}

-- an element at a place
got_mapped : {X : Type 0} (f : X → Row) (xs : List X) (at : ℕ) (row : Row) → slice_get (map f xs) at ≡ Some row → (x : X) × (slice_get xs at ≡ Some x) × (row ≡ f x)
got_mapped f [] at row e = absurd cc
got_mapped f (x ∷ xs) zero row e = (x, refl, let k : row ≡ f x = cc in k)
got_mapped f (x ∷ xs) (suc at) row e = got_mapped f xs at row e

mapped_got : {X : Type 0} (f : X → Row) (xs : List X) (at : ℕ) (x : X) → slice_get xs at ≡ Some x → slice_get (map f xs) at ≡ Some (f x)
mapped_got f [] at x e = absurd cc
mapped_got f (y ∷ xs) zero x e = let k : y ≡ x = cc in ap (λ z. Some (f z)) k
mapped_got f (y ∷ xs) (suc at) x e = mapped_got f xs at x e

got_has : {X : Type 0} (xs : List X) (at : ℕ) (x : X) → slice_get xs at ≡ Some x → Has xs x
got_has [] at x e = absurd cc
got_has (y ∷ xs) zero x e = inl (let k : x ≡ y = cc in k)
got_has (y ∷ xs) (suc at) x e = inr (got_has xs at x e)

has_got : {X : Type 0} (xs : List X) (x : X) → Has xs x → (at : ℕ) × (slice_get xs at ≡ Some x)
has_got [] x none = absurd none
has_got (y ∷ xs) x (inl is) = (0, ap Some (sym is))
has_got (y ∷ xs) x (inr more) = let it = has_got xs x more in (suc it.0, it.1)

-- the earlier is below the later
below : {X : Type 0} (R : X → X → Type 0) (xs : List X) (i j : ℕ) (x y : X) → IsAscending R xs → i < j → slice_get xs i ≡ Some x → slice_get xs j ≡ Some y → R x y
below R [] i j x y up before first second = absurd cc
below R (z ∷ xs) i zero x y up before first second = absurd (omega (arith, before))
below R (z ∷ xs) zero (suc j) x y up before first second = let k : z ≡ x = cc in subst (λ w. R w y) k (all_has (R z) xs y up.0 (got_has xs j y second))
below R (z ∷ xs) (suc i) (suc j) x y up before first second = below R xs i j x y up.1 (omega (arith, before)) first second

place : (i j : ℕ) → (i < j) ⊎ ((i ≡ j) ⊎ (j < i))
place i j = grind arith

there_before : {X : Type 0} (xs : List X) (i j : ℕ) (x : X) → i < j → slice_get xs j ≡ Some x → (y : X) × (slice_get xs i ≡ Some y)
there_before [] i j x before e = absurd cc
there_before (y ∷ xs) zero j x before e = (y, refl)
there_before (y ∷ xs) (suc i) zero x before e = absurd (omega (arith, before))
there_before (y ∷ xs) (suc i) (suc j) x before e = there_before xs i j x (omega (arith, before)) e

module _ {X : Type 0} (encode : X → Row) (cmp : X → X → Ordering) (total : IsTotalOrder cmp) (width : ℕ) (columns : (x y : X) → columns_cmp width (encode x) (encode y) ≡ cmp x y) where
  abbrev AreRising : List X → Type 0
  AreRising = IsAscending (λ x y. cmp x y ≡ Less)

  itself : (x : X) → cmp x x ≡ Equal
  itself x = go (cmp x x) (total.antisymm x x)
    where
      go : (o : Ordering) → o ≡ ordering_reverse o → o ≡ Equal
      go Less e = absurd cc
      go Equal e = refl
      go Greater e = absurd cc

  same_columns : (x y : X) → encode x ≡ encode y → cmp x y ≡ Less → ⊥
  same_columns x y same less =
      let k : Less ≡ Equal = sym less ∙ sym (columns x y) ∙ ap (λ r. columns_cmp width r (encode y)) same ∙ columns y y ∙ itself y in
      cc

  -- an entry that one of them has and the other hasn't
  pub record IsAlone (lefts rights : List X) (row : Row) : Type 0 where
    pub entry : X
    pub has : Has lefts entry
    pub row_is : row ≡ encode entry
    pub none : Has rights entry → ⊥

  pub alone : (lefts rights : List X) (row : Row) → AreRising lefts → AreRising rights → StandsFirst width (map encode lefts) (map encode rights) row → IsAlone lefts rights row
  alone lefts rights row left_up right_up stands =
      let it = got_mapped encode lefts stands.at row stands.there in
      record {
        entry = it.0;
        has = got_has lefts stands.at it.0 it.1;
        row_is = it.2;
        none = λ h. let j = has_got rights it.0 h in nowhere it.0 it.1 it.2 j.0 j.1;
      }
    where
      nowhere : (x : X) → slice_get lefts stands.at ≡ Some x → row ≡ encode x → (j : ℕ) → slice_get rights j ≡ Some x → ⊥
      nowhere x there is j other = elim (place j stands.at) [
        | inl early ↦
            let in_left : slice_get (map encode lefts) j ≡ Some (encode x) =
            sym (slice_get-take stands.at (map encode lefts) j early) ∙ ap (λ l. slice_get l j) stands.differ.before ∙ slice_get-take stands.at (map encode rights) j early ∙ mapped_got encode rights j x other in
            let y = got_mapped encode lefts j (encode x) in_left in
            same_columns y.0 x (sym y.2) (below (λ a b. cmp a b ≡ Less) lefts j stands.at y.0 x left_up early y.1 there)
        | inr (inl here) ↦
            stands.differ.differ (stands.there ∙ ap Some is ∙ sym (mapped_got encode rights stands.at x (subst (λ k. slice_get rights k ≡ Some x) here other)))
        | inr (inr late) ↦
            let y = there_before rights stands.at j x late other in
            let less = below (λ a b. cmp a b ≡ Less) rights stands.at j y.0 x right_up late y.1 other in
            let none = subst (IsNoneBefore width row) (mapped_got encode rights stands.at y.0 y.1) stands.none in
            none (ap (columns_cmp width (encode y.0)) is ∙ columns y.0 x ∙ less)
      ]
