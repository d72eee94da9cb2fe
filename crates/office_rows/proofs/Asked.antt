-- A query of all its rows, and its answer.
use Rattle.std.proofs.Common.{◌≡◌, ◌≢◌, ℕ, ℤ, List, [], ◌∷◌, map, flat_map, Bool, false, cond, Equal, sym, ap, subst, ◌∙◌}
use Rattle.std.specs.Prelude.{filter}
use Rattle.std.specs.List.{list_all}
use Rattle.std.specs.List.Sorted.{IsPermutation}
use Rattle.std.specs.Ordering.{is_lt}
use Rattle.std.proofs.lemmas.List.Sorted.{IsPermutation-trans, IsPermutation-sym, IsPermutation-map}
use Rattle.sqlite.specs.declared.types.Value.TheVariants.{Null}
use Rattle.sqlite.specs.Order.{Row}
use Rattle.sqlite.specs.Schema.{Schema}
use Rattle.sqlite.specs.Term.{Term, Env, eval_all, holds}
use Rattle.sqlite.specs.Query.{Query, Output, output, Join, IsAnswer, inner, end}
use Rattle.sqlite.specs.Command.TheVariants.{Select}
use Rattle.sqlite.specs.Program.{overlay}
use Rattle.sqlite.specs.State.{State, Shown}
use Rattle.sqlite.proofs.Callers.{reads_as}
use Rattle.sqlite_value.specs.declared.keys.Key.{Key}
use Rattle.sqlite_value.specs.declared.keys.Collation.{Collation}
use Rattle.sqlite_value.specs.Keys.{collated_cmp}
use Rattle.sqlite_trees.specs.Tree.{Trees}
use Rattle.sqlite_trees.proofs.ListLemmas.{map-map, flat_map-map, filter-map, ascending-map, IsPermutation-filter, all-map, all_weaker}
use Rattle.sqlite_rules.specs.Lists.{Has}
use Rattle.office_rows.specs.Entries.{Keeps, row_of}
use Rattle.office_rows.proofs.Plain.{Means}
use Rattle.office_rows.proofs.Reading.{matches_show}
use Rattle.office_rows.proofs.Rowids.{has_mapped, mapped_has, has_permuted}
use Rattle.office_rows.proofs.InOrder.{ordered_query, order_cmp, ShowsInOrder, answered_in_order}
use Rattle.office_rows.proofs.Distinct.{distinct_query, ShowsEachOnce, answered_each_once}

module _ (q : Query) (schema : Schema) (sql : List ℕ) (params : Row) (names : List (List ℕ)) (means : Means schema sql (Select (record { lets = []; body = q }) names))
    (old new : State) (has : old.now.schema ≡ schema) where
  pub shown_answer : (rows : List Row) → Shown sql params old new rows → IsAnswer q (overlay old.now.trees []) params rows
  shown_answer rows h = (reads_as sql params old new schema has _ means.is means.plain means.unlisted rows h).answer Null

-- ---- the entries of a table, each with what the query finds beside it

module _ {X : Type 0} (encode key shown : X → Row) (passes : X → Bool) (project tests : List Term) (order : List (Term × Key)) (from : Join) (params : Row) (env : ℤ × X → Env)
    (tested : (k : ℤ × X) → list_all (holds (env k)) tests ≡ passes k.1)
    (showed : (k : ℤ × X) → eval_all project (env k) ≡ shown k.1)
    (keyed : (k : ℤ × X) → eval_all (map (λ o. o.0) order) (env k) ≡ key k.1)
    (db : Trees) (table rows : List Row) (xs : List X) (keeps : Keeps encode table xs) where
  abbrev passed : List (ℤ × X)
  passed = filter (λ k. passes k.1) keeps.kept

  passed_same : IsPermutation (map (λ k. k.1) passed) (filter passes xs)
  passed_same =
      subst (λ l. IsPermutation l (filter passes xs)) (filter-map passes (λ (k : ℤ × X). k.1) keeps.kept) (IsPermutation-filter passes _ _ keeps.same)

  abbrev found : List Env
  found = flat_map (λ k. cond (list_all (holds (env k)) tests) (env k ∷ []) []) keeps.kept

  abbrev both : ℤ × X → Output
  both k = (key k.1, shown k.1)

  found_show : (f : Env → Output) → ((k : ℤ × X) → f (env k) ≡ both k) → (staged : List Env) → staged ≡ found → map f staged ≡ map both passed
  found_show f gives staged are = ap (map f) are ∙ matches_show env (λ k. list_all (holds (env k)) tests) (λ k. passes k.1) f both tested gives keeps.kept

  -- the answer shows the entries that pass, in the order
  pub entries_in_order : (a : IsAnswer (ordered_query project tests from order) db params rows) → a.staged ≡ found → ShowsInOrder key shown order (filter passes xs) rows
  entries_in_order a are =
      let outputs = found_show (output (ordered_query project tests from order)) (λ k i. (keyed k i, showed k i)) a.staged are in
      let it = answered_in_order (λ (k : ℤ × X). key k.1) (λ k. shown k.1) order project tests from db params rows passed a outputs in
      record {
        from = map (λ k. k.1) it.from;
        same = IsPermutation-trans _ _ _ (IsPermutation-sym _ _ passed_same) (IsPermutation-map (λ (k : ℤ × X). k.1) _ _ it.same);
        rows_are = it.rows_are ∙ sym (map-map shown (λ (k : ℤ × X). k.1) it.from);
        sorted = ascending-map (λ a b. is_lt (order_cmp key shown order b a) ≡ false) (λ (k : ℤ × X). k.1) it.from it.sorted;
      }

  -- the answer shows what the entries that pass show, each once, in the order
  pub entries_each_once : (by : List Collation) → (a : IsAnswer (distinct_query project tests from order by) db params rows) → a.staged ≡ found → ShowsEachOnce key shown order by (filter passes xs) rows
  entries_each_once by a are =
      let outputs = found_show (output (distinct_query project tests from order by)) (λ k i. (keyed k i, showed k i)) a.staged are in
      let it = answered_each_once (λ (k : ℤ × X). key k.1) (λ k. shown k.1) order by project tests from db params rows passed a outputs in
      record {
        from = map (λ k. k.1) it.from;
        rows_are = it.rows_are ∙ sym (map-map shown (λ (k : ℤ × X). k.1) it.from);
        each = all-map (Has (filter passes xs)) (λ (k : ℤ × X). k.1) it.from
            (all_weaker (Has passed) (λ k. Has (filter passes xs) k.1) (λ k h. has_permuted _ _ k.1 passed_same (mapped_has (λ (k : ℤ × X). k.1) passed k h)) it.from it.each);
        all = λ x h.
            let k = has_mapped (λ (k : ℤ × X). k.1) passed x (has_permuted _ _ x (IsPermutation-sym _ _ passed_same) h) in
            let z = it.all k.0 k.1 in
            (z.0.1, mapped_has (λ (k : ℤ × X). k.1) it.from z.0 z.1, subst (λ y. collated_cmp by (shown z.0.1) (shown y) ≡ Equal) (sym k.2) z.2);
        sorted = ascending-map (λ a b. is_lt (order_cmp key shown order b a) ≡ false) (λ (k : ℤ × X). k.1) it.from it.sorted;
        apart = ascending-map (λ a b. collated_cmp by (shown a) (shown b) ≢ Equal) (λ (k : ℤ × X). k.1) it.from it.apart;
      }

-- ---- one table

module _ {X : Type 0} (encode key shown : X → Row) (passes : X → Bool) (project tests : List Term) (order : List (Term × Key)) (params : Row)
    (tested : (k : ℤ × X) → list_all (holds (params ∷ row_of encode k ∷ [])) tests ≡ passes k.1)
    (showed : (k : ℤ × X) → eval_all project (params ∷ row_of encode k ∷ []) ≡ shown k.1)
    (keyed : (k : ℤ × X) → eval_all (map (λ o. o.0) order) (params ∷ row_of encode k ∷ []) ≡ key k.1)
    (db : Trees) (tree : ℕ) (rows : List Row) (xs : List X) (keeps : Keeps encode (db tree) xs) where
  abbrev in_env : ℤ × X → Env
  in_env k = params ∷ row_of encode k ∷ []

  staged_are : flat_map (λ r. cond (list_all (holds (params ∷ r ∷ [])) tests) ((params ∷ r ∷ []) ∷ []) []) (db tree) ≡ flat_map (λ k. cond (list_all (holds (in_env k)) tests) (in_env k ∷ []) []) keeps.kept
  staged_are =
      ap (flat_map (λ r. cond (list_all (holds (params ∷ r ∷ [])) tests) ((params ∷ r ∷ []) ∷ []) [])) keeps.rows_are
      ∙ flat_map-map (λ r. cond (list_all (holds (params ∷ r ∷ [])) tests) ((params ∷ r ∷ []) ∷ []) []) (row_of encode) keeps.kept

  pub table_in_order : IsAnswer (ordered_query project tests (inner tree end) order) db params rows → ShowsInOrder key shown order (filter passes xs) rows
  table_in_order a = entries_in_order encode key shown passes project tests order (inner tree end) params in_env tested showed keyed db (db tree) rows xs keeps a (a.grouped ∙ staged_are)

  pub table_each_once : (by : List Collation) → IsAnswer (distinct_query project tests (inner tree end) order by) db params rows → ShowsEachOnce key shown order by (filter passes xs) rows
  table_each_once by a = entries_each_once encode key shown passes project tests order (inner tree end) params in_env tested showed keyed db (db tree) rows xs keeps by a (a.grouped ∙ staged_are)
