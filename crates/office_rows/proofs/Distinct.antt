-- What a query answers that shows each row once, in an order.
use Rattle.std.proofs.Common.{◌⊎◌, inl, inr, ◌≡◌, ◌≢◌, List, [], ◌∷◌, map, flat_map, true, false, Equal, refl, sym, ap, subst, ◌∙◌}
use Rattle.std.specs.List.{AllByRecursion}
use Rattle.std.specs.List.Sorted.{IsPermutation}
use Rattle.std.specs.Ordering.{on, is_lt}
use Rattle.std.proofs.lemmas.Cmp.{tied_itself, on_total}
use Rattle.std.proofs.lemmas.List.Sorted.{IsPermutation-sym}
use Rattle.sqlite.specs.Order.{Row}
use Rattle.sqlite.specs.Term.{Term}
use Rattle.sqlite.specs.Query.{Query, Join, IsAnswer, Output, output}
use Rattle.sqlite_sql.specs.Query.{output_cmp}
use Rattle.sqlite_sql.specs.Group.{members}
use Rattle.sqlite_sql.proofs.QueryLemmas.{output_cmp_total}
use Rattle.sqlite_value.specs.declared.keys.Key.{Key}
use Rattle.sqlite_value.specs.declared.keys.Collation.{Collation}
use Rattle.sqlite_value.specs.Keys.{collated_cmp}
use Rattle.sqlite_value.proofs.KeyLemmas.{collated_cmp_total}
use Rattle.sqlite_trees.specs.Tree.{Trees, IsAscending}
use Rattle.sqlite_trees.proofs.ListLemmas.{map-map, ascending-map, ascending_from_map}
use Rattle.sqlite_rules.specs.Lists.{Has}
use Rattle.sqlite_rules.proofs.ListLemmas.{all_has, has_left, has_right, has_either}
use Rattle.office_rows.proofs.Rowids.{has_mapped, mapped_has, has_permuted}
use Rattle.office_rows.proofs.InOrder.{AreSorted, sorted_from, apart_permuted, ordered_query, order_cmp, order_cmp_total}

first_in : {X : Type 0} (groups : List (X × List X)) (g : X × List X) → Has groups g → Has (flat_map members groups) g.0
first_in [] g none = absurd none
first_in {X} (h ∷ gs) g (inl is) = has_left (members h) (flat_map members gs) g.0 (inl (ap (λ (k : X × List X). k.0) is))
first_in (h ∷ gs) g (inr more) = has_right (members h) (flat_map members gs) g.0 (first_in gs g more)

in_group : {X : Type 0} (groups : List (X × List X)) (x : X) → Has (flat_map members groups) x → (g : X × List X) × Has groups g × Has (members g) x
in_group [] x none = absurd none
in_group {X} (g ∷ gs) x h = go (in_group gs x) (has_either (members g) (flat_map members gs) x h)
  where
    go : (Has (flat_map members gs) x → (k : X × List X) × Has gs k × Has (members k) x) → Has (members g) x ⊎ Has (flat_map members gs) x → (k : X × List X) × Has (g ∷ gs) k × Has (members k) x
    go later (inl here) = (g, inl refl, here)
    go later (inr more) = let it = later more in (it.0, inr it.1, it.2)

-- a list of images of some elements is the image of a list of them
images : {X Z : Type 0} (f : X → Z) (xs : List X) (zs : List Z) → ((z : Z) → Has zs z → (x : X) × Has xs x × (z ≡ f x)) → (from : List X) × (zs ≡ map f from) × AllByRecursion (Has xs) from
images f xs [] h = ([], refl, tt)
images f xs (z ∷ zs) h =
    let it = h z (inl refl) in
    let more = images f xs zs (λ y has. h y (inr has)) in
    (it.0 ∷ more.0, (λ i. it.2 i ∷ more.1 i), (it.1, more.2))

-- the query that shows each row once, by these collations
abbrev pub distinct_query : List Term → List Term → Join → List (Term × Key) → List Collation → Query
distinct_query project filter from order by = record (ordered_query project filter from order) { distinct = true; collations = by }

module _ {Y : Type 0} (key shown : Y → Row) (order : List (Term × Key)) (by : List Collation) where
  -- the rows show some of these in the order, no two of them alike, and one that is like each
  pub record ShowsEachOnce (ys : List Y) (rows : List Row) : Type 0 where
    pub from : List Y
    pub rows_are : rows ≡ map shown from
    pub each : AllByRecursion (Has ys) from
    pub all : (y : Y) → Has ys y → (z : Y) × Has from z × (collated_cmp by (shown z) (shown y) ≡ Equal)
    pub sorted : AreSorted (order_cmp key shown order) (order_cmp_total key shown order) from
    pub apart : IsAscending (λ a b. collated_cmp by (shown a) (shown b) ≢ Equal) from

  abbrev both : Y → Output
  both y = (key y, shown y)

  module _ (project filter : List Term) (from : Join) where
    abbrev asked : Query
    asked = distinct_query project filter from order by

    pub answered_each_once : (db : Trees) (params : Row) (rows : List Row) (ys : List Y) → (a : IsAnswer asked db params rows) → map (output asked) a.staged ≡ map both ys → ShowsEachOnce ys rows
    answered_each_once db params rows ys a outputs =
        let groups = a.distinct.0 in
        let part = a.distinct.1 in
        let shared : IsPermutation (map both ys) (flat_map members groups) = subst (λ l. IsPermutation l (flat_map members groups)) outputs part.same in
        let firsts = λ (o : Output) (h : Has a.ordered o). has_mapped (λ (g : Output × List Output). g.0) groups o (subst (λ l. Has l o) a.distinct.2 (has_permuted a.ordered a.kept o (IsPermutation-sym a.kept a.ordered a.same) h)) in
        let it = images both ys a.ordered
        (λ o h.
        let g = firsts o h in
        has_mapped both ys o (has_permuted (flat_map members groups) (map both ys) o (IsPermutation-sym (map both ys) (flat_map members groups) shared) (subst (Has (flat_map members groups)) (sym g.2) (first_in groups g.0 g.1)))) in
        let late = sorted_from (output_cmp asked) (output_cmp_total asked) a.ordered a.sorted in
        let alike = on_total (λ (o : Output). o.1) (collated_cmp_total by) in
        let apart_kept = subst (IsAscending (λ (o p : Output). collated_cmp by o.1 p.1 ≢ Equal)) (sym a.distinct.2) (ascending-map (λ (o p : Output). collated_cmp by o.1 p.1 ≢ Equal) (λ (g : Output × List Output). g.0) groups part.apart) in
        let apart_ordered = apart_permuted (on (λ (o : Output). o.1) (collated_cmp by)) alike a.kept a.ordered a.same apart_kept in
        record {
          from = it.0;
          rows_are = a.shown ∙ ap (map (λ (o : Output). o.1)) it.1 ∙ map-map _ both it.0;
          each = it.2;
          all = λ y h.
              let g = in_group groups (both y) (has_permuted (map both ys) (flat_map members groups) (both y) shared (mapped_has both ys y h)) in
              let kept : Has a.kept g.0.0 = subst (λ l. Has l g.0.0) (sym a.distinct.2) (mapped_has (λ (g : Output × List Output). g.0) groups g.0 g.1) in
              let z = has_mapped both it.0 g.0.0 (subst (λ l. Has l g.0.0) it.1 (has_permuted a.kept a.ordered g.0.0 a.same kept)) in
              (z.0, z.1, subst (λ (o : Output). collated_cmp by o.1 (shown y) ≡ Equal) z.2 (like_first g.0 (both y) (all_has _ groups g.0 part.alike g.1) g.2));
          sorted = ascending_from_map (λ a b. is_lt (output_cmp asked b a) ≡ false) both it.0 (subst (AreSorted (output_cmp asked) (output_cmp_total asked)) it.1 late);
          apart = ascending_from_map (λ (o p : Output). collated_cmp by o.1 p.1 ≢ Equal) both it.0 (subst (IsAscending (λ (o p : Output). collated_cmp by o.1 p.1 ≢ Equal)) it.1 apart_ordered);
        }
      where
        like_first : (g : Output × List Output) (o : Output) → AllByRecursion (λ (p : Output). collated_cmp by g.0.1 p.1 ≡ Equal) g.1 → Has (members g) o → collated_cmp by g.0.1 o.1 ≡ Equal
        like_first g o alike (inl is) = ap (λ (p : Output). collated_cmp by g.0.1 p.1) is ∙ tied_itself (collated_cmp_total by) g.0.1
        like_first g o alike (inr more) = all_has (λ (p : Output). collated_cmp by g.0.1 p.1 ≡ Equal) g.1 o alike more
