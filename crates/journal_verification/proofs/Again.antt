-- A table whose queries answer what those of another do keeps the same entries.
use Rattle.std.proofs.Common.{◌≡◌, ℤ, ℕ, List, [], ◌∷◌, map, IsTrue, Less, false, refl, sym, ap, subst, ◌∙◌}
use Rattle.std.specs.List.{AllByRecursion, flat_map}
use Rattle.std.specs.List.Sorted.{IsPermutation}
use Rattle.std.specs.Ordering.{is_eq, ordering_reverse}
use Rattle.std.specs.declared.cmp.Ordering.{Ordering}
use Rattle.std.specs.declared.cmp.Ordering.TheVariants as order
use Rattle.std.proofs.lemmas.List.Sorted.{IsPermutation-sym, IsPermutation-trans, IsPermutation-map}
use Rattle.sqlite.specs.declared.types.Value.{Value}
use Rattle.sqlite.specs.declared.types.Value.TheVariants.{Null, Int, Real, Text, Blob}
use Rattle.sqlite.specs.Order.{Row}
use Rattle.sqlite.specs.Term.{Term, eval_all}
use Rattle.sqlite.specs.Query.{IsAnswer, Output, output, inner, end}
use Rattle.sqlite_value.specs.declared.keys.Key.{Key}
use Rattle.sqlite_value.specs.Order.{value_cmp}
use Rattle.sqlite_value.proofs.OrderLemmas.{value_cmp_total}
use Rattle.sqlite_trees.specs.Tree.{Trees, IsAscending, rowid}
use Rattle.sqlite_trees.specs.View.{is_int, IsShaped}
use Rattle.sqlite_trees.specs.declared.store.Shape.TheVariants.{Table}
use Rattle.sqlite_trees.proofs.ListLemmas.{map-map, all-permutation, all_from_map, ascending_weaker, ascending_from_map}
use Rattle.office_rows.specs.Entries.{Keeps, row_of}
use Rattle.office_rows.proofs.InOrder.{ordered_query, ascending_permuted}
use Rattle.office_rows.proofs.Permuted.{permuted_map}

each_alone : {X Y : Type 0} (f : X → Y) (xs : List X) → flat_map (λ x. f x ∷ []) xs ≡ map f xs
each_alone f [] = refl
each_alone f (x ∷ xs) = ap (λ l. f x ∷ l) (each_alone f xs)

-- the answer is what is shown of the rows of the table, in some order
pub shows_all : (project : List Term) (order : List (Term × Key)) (db : Trees) (tree : ℕ) (rows : List Row) → IsAnswer (ordered_query project [] (inner tree end) order) db [] rows
    → IsPermutation (map (λ (r : Row). eval_all project ([] ∷ r ∷ [])) (db tree)) rows
shows_all project order db tree rows a =
    let env = λ (r : Row). [] ∷ r ∷ [] in
    let query = ordered_query project [] (inner tree end) order in
    let staged : a.staged ≡ map env (db tree) = a.grouped ∙ each_alone env (db tree) in
    let kept : a.kept ≡ map (output query) a.staged = a.distinct in
    let outputs : map (λ (o : Output). o.1) a.kept ≡ map (λ (r : Row). eval_all project ([] ∷ r ∷ [])) (db tree) =
    ap (map (λ (o : Output). o.1)) kept ∙ map-map _ _ a.staged ∙ ap (map (eval_all project)) staged ∙ map-map _ _ (db tree) in
    rw (outputs, ← a.shown) at (IsPermutation-map (λ (o : Output). o.1) a.kept a.ordered a.same)

-- ---- the rowids

abbrev AreInts : List Row → Type 0
AreInts = AllByRecursion (λ r. IsTrue (is_int (rowid r)))

abbrev AreApart : List Row → Type 0
AreApart = IsAscending (λ a b. is_eq (value_cmp (rowid a) (rowid b)) ≡ false)

either_way : (a b : Row) → is_eq (value_cmp (rowid a) (rowid b)) ≡ false → is_eq (value_cmp (rowid b) (rowid a)) ≡ false
either_way a b apart = ap is_eq (value_cmp_total.antisymm (rowid b) (rowid a)) ∙ back (value_cmp (rowid a) (rowid b)) ∙ apart
  where
    back : (o : Ordering) → is_eq (ordering_reverse o) ≡ is_eq o
    back order.Less = refl
    back order.Equal = refl
    back order.Greater = refl

module _ (rows ids : List Row) (same : IsPermutation (map (λ (r : Row). rowid r ∷ []) rows) ids) (rise : IsShaped Table ids) where
  pub are_ints : AreInts rows
  are_ints = all_from_map (λ r. IsTrue (is_int (rowid r))) (λ (r : Row). rowid r ∷ []) rows (all-permutation _ ids _ (IsPermutation-sym _ _ same) rise.1)

  pub are_apart : AreApart rows
  are_apart =
      let apart = ascending_weaker (λ (a b : Row). value_cmp (rowid a) (rowid b) ≡ Less) (λ (a b : Row). is_eq (value_cmp (rowid a) (rowid b)) ≡ false) (λ a b less. ap is_eq less) ids rise.0 in
      ascending_from_map (λ (a b : Row). is_eq (value_cmp (rowid a) (rowid b)) ≡ false) (λ (r : Row). rowid r ∷ []) rows
      (ascending_permuted (λ (a b : Row). is_eq (value_cmp (rowid a) (rowid b)) ≡ false) either_way ids _ (IsPermutation-sym _ _ same) apart)

-- ---- the entries

int_of : (v : Value) → IsTrue (is_int v) → (id : ℤ) × (v ≡ Int id)
int_of Null is = absurd cc
int_of (Int id) is = (id, refl)
int_of (Real x) is = absurd cc
int_of (Text t) is = absurd cc
int_of (Blob b) is = absurd cc

module _ {X : Type 0} (encode : X → Row) (shown : Row → Row) (Fits : Row → Type 0)
    (whole : (row : Row) (id : ℤ) (x : X) → Fits row → rowid row ≡ Int id → shown row ≡ encode x → row ≡ row_of encode (id, x)) where
  record AreKept (rows : List Row) (from : List X) : Type 0 where
    kept : List (ℤ × X)
    rows_are : rows ≡ map (row_of encode) kept
    from_are : map (λ k. k.1) kept ≡ from

  are_kept : (rows : List Row) (from : List X) → map shown rows ≡ map encode from → AllByRecursion Fits rows → AreInts rows → AreKept rows from
  are_kept [] [] e fits ints = record { kept = []; rows_are = refl; from_are = refl }
  are_kept [] (x ∷ from) e fits ints = absurd cc
  are_kept (row ∷ rows) [] e fits ints = absurd cc
  are_kept (row ∷ rows) (x ∷ from) e fits ints =
      let first : shown row ≡ encode x = cc in
      let others : map shown rows ≡ map encode from = cc in
      let more = are_kept rows from others fits.1 ints.1 in
      let id = int_of (rowid row) ints.0 in
      record {
        kept = (id.0, x) ∷ more.kept;
        rows_are = λ i. whole row id.0 x fits.0 id.1 first i ∷ more.rows_are i;
        from_are = ap (λ (l : List X). x ∷ l) more.from_are;
      }

  -- rows that show what those of a table do keep its entries
  pub kept_again : (showed : (k : ℤ × X) → shown (row_of encode k) ≡ encode k.1) (olds rows answer : List Row) (xs : List X) → Keeps encode olds xs → IsPermutation (map shown olds) answer
      → IsPermutation (map shown rows) answer → AllByRecursion Fits rows → AreInts rows → AreApart rows → Keeps encode rows xs
  kept_again showed olds rows answer xs keeps before after fits ints apart =
      let entry : ℤ × X → X = λ k. k.1 in
      let olds_show : map shown olds ≡ map encode (map entry keeps.kept) =
      ap (map shown) keeps.rows_are ∙ map-map shown (row_of encode) keeps.kept ∙ (λ i. map (λ k. showed k i) keeps.kept) ∙ sym (map-map encode entry keeps.kept) in
      let entries = IsPermutation-sym _ _ (IsPermutation-map encode _ _ keeps.same) in
      let shows = IsPermutation-trans _ _ _ (subst (λ l. IsPermutation (map encode xs) l) (sym olds_show) entries) (IsPermutation-trans _ _ _ before (IsPermutation-sym _ _ after)) in
      let it = permuted_map encode xs (map shown rows) shows in
      let new = are_kept rows it.from it.is fits ints in
      record {
        kept = new.kept;
        rows_are = new.rows_are;
        apart = ascending_from_map (λ (a b : Row). is_eq (value_cmp (rowid a) (rowid b)) ≡ false) (row_of encode) new.kept (subst AreApart new.rows_are apart);
        same = subst (λ l. IsPermutation l xs) (sym new.from_are) (IsPermutation-sym _ _ it.same);
      }
