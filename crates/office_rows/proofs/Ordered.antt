-- What the first row of a query that is put in an order says of the entries that a table keeps.
use Rattle.std.proofs.Common.{inl, ◌≡◌, ℕ, ℤ, pos, List, [], ◌∷◌, map, take, Bool, true, false, Option, None, Some, Ok, Result, IfOk, All, refl, sym, ap, subst, ◌∙◌, arith}
use Rattle.std.specs.Prelude.{filter}
use Rattle.std.specs.List.{list_all}
use Rattle.std.specs.Ordering.{is_lt}
use Rattle.std.specs.List.Sorted.{IsPermutation, IsSorted}
use Rattle.std.proofs.lemmas.List.Sorted.{IsPermutation-trans, IsPermutation-sym, IsPermutation-map, ranks_by, sorted_far}
use Rattle.std.proofs.lemmas.List.Elements.{All-contains}
use Rattle.sqlite.specs.declared.types.Value.TheVariants.{Null, Int}
use Rattle.sqlite.specs.Order.{Row}
use Rattle.sqlite.specs.Schema.{Schema}
use Rattle.sqlite.specs.Term.{Term, lit, eval_all, holds}
use Rattle.sqlite.specs.Command.TheVariants.{Select}
use Rattle.sqlite.specs.Program.{overlay}
use Rattle.sqlite.specs.State.{State, QueriesRow, Shown}
use Rattle.sqlite.proofs.Callers.{first_as, reads_as}
use Rattle.sqlite_value.specs.declared.keys.Key.{Key}
use Rattle.sqlite_sql.specs.Query.{key_cmp, output_cmp}
use Rattle.sqlite_sql.proofs.QueryLemmas.{output_cmp_total}
use Rattle.sqlite.specs.Query.{Query, IsAnswer, Output, output}
use Rattle.sqlite_rules.specs.Lists.{Has}
use Rattle.sqlite_rules.proofs.ListLemmas.{has_filtered, has_kept, contains_had}
use Rattle.sqlite_trees.specs.Tree.{Trees}
use Rattle.sqlite_trees.proofs.ListLemmas.{map-map, filter-map, IsPermutation-filter}
use Rattle.office_rows.specs.Entries.{Keeps, row_of}
use Rattle.office_rows.proofs.Plain.{plain_query, Means}
use Rattle.office_words.specs.declared.fault.Fault.{Fault}
use Rattle.office_rows.specs.Faults.{FindsRow}
use Rattle.office_rows.proofs.Finding.{finds}
use Rattle.office_rows.proofs.Reading.{matched}
use Rattle.office_rows.proofs.Rowids.{has_mapped, mapped_has, has_permuted}

-- the query of one table in an order, and of its answer the first row
abbrev pub first_query : List Term → List Term → ℕ → List (Term × Key) → Query
first_query project tests tree order = record (plain_query project tests tree) { order = order; limit = lit (Int (pos 1)) }

module _ {X : Type 0} (encode shown sorts : X → Row) (passes : X → Bool) (project tests : List Term) (order : List (Term × Key)) (params : Row) where
  abbrev keys : List Key
  keys = map (λ k. k.1) order

  -- of the entries that pass, none comes before this one
  pub record IsFirst (xs : List X) (x : X) : Type 0 where
    pub has : Has xs x
    pub passed : passes x ≡ true
    pub least : (y : X) → Has xs y → passes y ≡ true → is_lt (key_cmp 0 keys (sorts y) (sorts x)) ≡ false

  -- the first row shows the first of the entries that pass; where there is no row, none passes
  abbrev pub AreFirst : List X → List Row → Type 0
  AreFirst xs [] = (x : X) → Has xs x → passes x ≡ true → ⊥
  AreFirst xs (row ∷ rows) = (x : X) × IsFirst xs x × (row ≡ shown x)

  -- the same of the first row alone
  abbrev pub IsFirstRow : List X → Option Row → Type 0
  IsFirstRow xs None = (x : X) → Has xs x → passes x ≡ true → ⊥
  IsFirstRow xs (Some row) = (x : X) × IsFirst xs x × (row ≡ shown x)

  abbrev out : X → Output
  out x = (sorts x, shown x)

  module _ (tested : (k : ℤ × X) → list_all (holds (params ∷ row_of encode k ∷ [])) tests ≡ passes k.1)
      (showed : (k : ℤ × X) → eval_all project (params ∷ row_of encode k ∷ []) ≡ shown k.1)
      (sorted : (k : ℤ × X) → eval_all (map (λ o. o.0) order) (params ∷ row_of encode k ∷ []) ≡ sorts k.1) where
    abbrev query : ℕ → Query
    query tree = first_query project tests tree order

    first_of : (tree : ℕ) (xs : List X) (os : List Output) → IsPermutation (map out (filter passes xs)) os → IsSorted (output_cmp (query tree)) os → AreFirst xs (take 1 (map (λ (o : Output). o.1) os))
    first_of tree xs [] same up = λ x has_x passed. has_permuted _ _ (out x) same (mapped_has out (filter passes xs) x (has_kept passes xs x has_x passed))
    first_of tree xs (o ∷ os) same up =
        let it = has_mapped out (filter passes xs) o (has_permuted _ _ o (IsPermutation-sym _ _ same) (inl refl)) in
        let kept = has_filtered passes xs it.0 it.1 in
        let before = λ (a b : Output). is_lt (output_cmp (query tree) a b) in
        let all : All (λ b. before b o ≡ false) (o ∷ os) = λ j d below. sorted_far before (ranks_by (output_cmp_total (query tree)) (λ (o : Output). o)) (o ∷ os) up 0 j d (omega arith) below in (
          it.0,
          record {
            has = kept.0;
            passed = kept.1;
            least = λ y has_y passed.
                subst (λ (b : Output). before (out y) b ≡ false) it.2
                (All-contains (λ b. before b o ≡ false) (o ∷ os) (out y) all (contains_had (o ∷ os) (out y) (has_permuted _ _ (out y) same (mapped_has out (filter passes xs) y (has_kept passes xs y has_y passed)))));
          },
          ap (λ (o : Output). o.1) it.2,
        )

    pub answered_first : (db : Trees) (tree : ℕ) (rows : List Row) (xs : List X) → IsAnswer (query tree) db params rows → Keeps encode (db tree) xs → AreFirst xs rows
    answered_first db tree rows xs a keeps =
        let all : map (output (query tree)) a.staged ≡ map (λ k. out k.1) (filter (λ k. passes k.1) keeps.kept) =
        ap (map (output (query tree))) (a.grouped ∙ rw keeps.rows_are)
        ∙ matched encode (output (query tree)) (λ k. out k.1) (λ k. passes k.1) tests params tested (λ k i. (sorted k i, showed k i)) keeps.kept in
        let kept : a.kept ≡ map (output (query tree)) a.staged = a.distinct in
        let as_pairs : map out (filter passes (map (λ (k : ℤ × X). k.1) keeps.kept)) ≡ map (λ k. out k.1) (filter (λ k. passes k.1) keeps.kept) =
        ap (map out) (filter-map passes (λ (k : ℤ × X). k.1) keeps.kept) ∙ map-map _ _ _ in
        let wanted = IsPermutation-map out _ _ (IsPermutation-filter passes _ _ (IsPermutation-sym _ _ keeps.same)) in
        let same = IsPermutation-trans _ _ _ wanted (subst (λ l. IsPermutation l a.ordered) (kept ∙ all ∙ sym as_pairs) a.same) in
        subst (AreFirst xs) (sym a.shown) (first_of tree xs a.ordered same a.sorted)

    -- ---- what a query of a known meaning answers

    module _ (schema : Schema) (sql : List ℕ) (tree : ℕ) (names : List (List ℕ)) (means : Means schema sql (Select (record { lets = []; body = first_query project tests tree order }) names))
        (old new : State) (has : old.now.schema ≡ schema) (xs : List X) (keeps : Keeps encode (overlay old.now.trees [] tree) xs) where
      first_found : (row : Row) → QueriesRow sql params old new (Ok row) → (x : X) × IsFirst xs x × (row ≡ shown x)
      first_found row h =
          let got = (first_as sql params old new schema has _ means.is means.plain means.unlisted row h).1 in
          answered_first (overlay old.now.trees []) tree (row ∷ got.0) xs (got.1 Null) keeps

      first_none : Shown sql params old new [] → (x : X) → Has xs x → passes x ≡ true → ⊥
      first_none h = answered_first (overlay old.now.trees []) tree [] xs ((reads_as sql params old new schema has _ means.is means.plain means.unlisted [] h).answer Null) keeps

      pub finds_first : (r : Result (Option Row) Fault) → FindsRow sql params old new r → IfOk r (IsFirstRow xs)
      finds_first r h =
          let it = finds (Select (record { lets = []; body = first_query project tests tree order }) names) schema sql params means old new has (IsFirstRow xs) first_found first_none r h in
          it.0
