-- What a query answers in an order of its own.
use Rattle.std.proofs.Common.{◌≡◌, ◌≢◌, ℕ, suc, ◌<◌, List, [], ◌∷◌, map, length, get_or, false, None, Ordering, Less, Equal, Greater, is_lt, ap, subst, ◌∙◌, arith, true≢false, IsSorted, pos, negsuc}
use Rattle.std.specs.List.{AllByRecursion, AllPairs}
use Rattle.std.specs.List.Sorted.{IsPermutation}
use Rattle.std.specs.Ordering.{ordering_reverse, on}
use Rattle.std.specs.Cmp.{IsTotalOrder}
use Rattle.std.proofs.lemmas.Cmp.{tied_back, on_total}
use Rattle.std.proofs.lemmas.List.Sorted.{sorted_far, ranks_by, IsPermutation-refl, IsPermutation-cons, IsPermutation-middle, IsPermutation-trans}
use Rattle.sqlite.specs.declared.types.Value.TheVariants.{Int}
use Rattle.sqlite.specs.Order.{Row}
use Rattle.sqlite.specs.Term.{Term, lit}
use Rattle.sqlite.specs.Query.{Query, Join, IsAnswer, Output, output}
use Rattle.sqlite_sql.specs.Query.{key_cmp, output_cmp}
use Rattle.sqlite_sql.proofs.QueryLemmas.{key_cmp_total, output_cmp_total}
use Rattle.sqlite_value.specs.declared.keys.Key.{Key}
use Rattle.sqlite_trees.specs.Tree.{Trees, IsAscending}
use Rattle.sqlite_trees.proofs.ListLemmas.{along_permutation, all-permutation, all_both, map-map, ascending_from_map}
use Rattle.office_rows.proofs.Permuted.{permuted_map}

-- ---- lists in order

-- what holds of each and each later one, both ways round, holds in any order
pub ascending_permuted : {X : Type 0} (S : X → X → Type 0) → ((a b : X) → S a b → S b a) → (xs ys : List X) → IsPermutation xs ys → IsAscending S xs → IsAscending S ys
ascending_permuted {X} S both xs ys same =
    (along_permutation (λ (us vs : List X). IsPermutation us vs × (IsAscending S us → IsAscending S vs))
    (λ us. (IsPermutation-refl us, λ up. up))
    (λ x us vs h. (IsPermutation-cons x us vs h.0, λ up. (all-permutation (S x) us vs h.0 up.0, h.1 up.1)))
    (λ x y us. (IsPermutation-middle (x ∷ []) y us, λ up. ((both x y up.0.0, up.1.0), (up.0.1, up.1.1))))
    (λ us vs ws p q. (IsPermutation-trans us vs ws p.0 q.0, λ up. q.1 (p.1 up)))
    xs ys same).1

all_at : {X : Type 0} (P : X → Type 0) (xs : List X) → ((j : ℕ) (d : X) → j < length xs → P (get_or xs j d)) → AllByRecursion P xs
all_at P [] h = tt
all_at P (x ∷ xs) h = (h 0 x (omega arith), all_at P xs (λ j d below. h (suc j) d (omega arith)))

-- each stands so before each later one
pub ascends : {X : Type 0} (S : X → X → Type 0) (xs : List X) → AllPairs S xs → IsAscending S xs
ascends S [] h = tt
ascends S (x ∷ xs) h = (
  all_at (S x) xs (λ j d below. h 0 (suc j) d (omega arith) (omega arith)),
  ascends S xs (λ i j d before below. h (suc i) (suc j) d (omega arith) (omega arith)),
)

module _ {X : Type 0} (cmp : X → X → Ordering) (total : IsTotalOrder cmp) where
  -- no later one is less
  abbrev pub AreSorted : List X → Type 0
  AreSorted = IsAscending (λ a b. is_lt (cmp b a) ≡ false)

  -- no two are equal
  abbrev pub AreApart : List X → Type 0
  AreApart = IsAscending (λ a b. cmp a b ≢ Equal)

  -- each is less than each later one
  abbrev pub AreRising : List X → Type 0
  AreRising = IsAscending (λ a b. cmp a b ≡ Less)

  pub sorted_from : (xs : List X) → IsSorted cmp xs → AreSorted xs
  sorted_from xs sorted = ascends _ xs (λ i j d before below. sorted_far (λ x y. is_lt (cmp x y)) (ranks_by total (λ x. x)) xs sorted i j d (omega arith) below)

  less_then : (a b : X) → is_lt (cmp b a) ≡ false → cmp a b ≢ Equal → cmp a b ≡ Less
  less_then a b late other = go (cmp a b) (cmp b a) (total.antisymm a b) late other
    where
      go : (o p : Ordering) → o ≡ ordering_reverse p → is_lt p ≡ false → o ≢ Equal → o ≡ Less
      go o Less e late other = absurd (true≢false late)
      go o Equal e late other = absurd (other e)
      go o Greater e late other = e

  pub rises : (xs : List X) → AreSorted xs → AreApart xs → AreRising xs
  rises [] sorted apart = tt
  rises (x ∷ xs) sorted apart =
      (all_both (λ b. is_lt (cmp b x) ≡ false) (λ b. cmp x b ≢ Equal) (λ b. cmp x b ≡ Less) (λ b. less_then x b) xs sorted.0 apart.0, rises xs sorted.1 apart.1)

  pub apart_permuted : (xs ys : List X) → IsPermutation xs ys → AreApart xs → AreApart ys
  apart_permuted = ascending_permuted (λ a b. cmp a b ≢ Equal) (λ a b other same. other (tied_back total b a same))

-- ---- the answer of a query in an order

abbrev pub ordered_query : List Term → List Term → Join → List (Term × Key) → Query
ordered_query project filter from order = record {
  from = from;
  filter = filter;
  group = None;
  project = project;
  distinct = false;
  collations = [];
  order = order;
  limit = lit (Int (negsuc 0));
  offset = lit (Int (pos 0));
}

module _ {Y : Type 0} (key shown : Y → Row) (order : List (Term × Key)) where
  abbrev pub order_cmp : Y → Y → Ordering
  order_cmp = on key (key_cmp 0 (map (λ k. k.1) order))

  pub order_cmp_total : IsTotalOrder order_cmp
  order_cmp_total = on_total key (key_cmp_total (map (λ k. k.1) order) 0)

  -- the rows show these in the order
  pub record ShowsInOrder (ys : List Y) (rows : List Row) : Type 0 where
    pub from : List Y
    pub same : IsPermutation ys from
    pub rows_are : rows ≡ map shown from
    pub sorted : AreSorted order_cmp order_cmp_total from

  abbrev both : Y → Output
  both y = (key y, shown y)

  module _ (project filter : List Term) (from : Join) where
    abbrev asked : Query
    asked = ordered_query project filter from order

    pub answered_in_order : (db : Trees) (params : Row) (rows : List Row) (ys : List Y) → (a : IsAnswer asked db params rows) → map (output asked) a.staged ≡ map both ys → ShowsInOrder ys rows
    answered_in_order db params rows ys a outputs =
        let kept : a.kept ≡ map both ys = a.distinct ∙ outputs in
        let it = permuted_map both ys a.ordered (subst (λ l. IsPermutation l a.ordered) kept a.same) in
        let late = sorted_from (output_cmp asked) (output_cmp_total asked) a.ordered a.sorted in
        record {
          from = it.from;
          same = it.same;
          rows_are = a.shown ∙ ap (map (λ (o : Output). o.1)) it.is ∙ map-map _ both it.from;
          sorted = ascending_from_map (λ a b. is_lt (output_cmp asked b a) ≡ false) both it.from (subst (AreSorted (output_cmp asked) (output_cmp_total asked)) it.is late);
        }
