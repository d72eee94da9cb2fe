-- What a query over one table answers of the entries that the table keeps.
use Rattle.std.proofs.Common.{inl, ◌≡◌, ℕ, ℤ, List, [], ◌∷◌, ◌++◌, map, Bool, true, false, cond, Ok, refl, ap, ◌∙◌}
use Rattle.std.specs.Prelude.{filter}
use Rattle.std.specs.List.{list_all}
use Rattle.std.specs.List.{flat_map}
use Rattle.std.specs.List.Sorted.{IsPermutation}
use Rattle.std.proofs.lemmas.List.Sorted.{IsPermutation-trans, IsPermutation-sym, IsPermutation-map}
use Rattle.sqlite.specs.declared.types.Value.TheVariants.{Null}
use Rattle.sqlite.specs.Order.{Row}
use Rattle.sqlite.specs.Term.{Term, Env, eval_all, holds}
use Rattle.sqlite.specs.Command.TheVariants.{Select}
use Rattle.sqlite.specs.Program.{overlay}
use Rattle.sqlite.specs.State.{State, QueriesRow, Shown}
use Rattle.sqlite.specs.Schema.{Schema}
use Rattle.sqlite.proofs.Callers.{first_as, reads_as}
use Rattle.sqlite_rules.specs.Lists.{Has}
use Rattle.sqlite_rules.proofs.ListLemmas.{has_filtered, has_kept}
use Rattle.sqlite.specs.Query.{IsAnswer, Output, output}
use Rattle.sqlite_trees.specs.Tree.{Trees}
use Rattle.sqlite_trees.proofs.ListLemmas.{map-map, flat_map-map, filter-map, IsPermutation-filter}
use Rattle.office_rows.specs.Entries.{Keeps, row_of}
use Rattle.office_rows.proofs.Plain.{plain_query, Means}
use Rattle.office_rows.proofs.Rowids.{has_mapped, mapped_has, has_permuted}

-- what a function makes of what stands for those that pass
pub matches_show : {Y E Z : Type 0} (env : Y → E) (test passes : Y → Bool) (f : E → Z) (g : Y → Z) → ((y : Y) → test y ≡ passes y) → ((y : Y) → f (env y) ≡ g y)
    → (ys : List Y) → map f (flat_map (λ y. cond (test y) (env y ∷ []) []) ys) ≡ map g (filter passes ys)
matches_show env test passes f g tested gives [] = refl
matches_show {E = E} env test passes f g tested gives (y ∷ ys) = go (test y) (passes y) (tested y) (matches_show env test passes f g tested gives ys)
  where
    rest : List E
    rest = flat_map (λ y. cond (test y) (env y ∷ []) []) ys

    go : (a b : Bool) → a ≡ b → map f rest ≡ map g (filter passes ys) → map f (cond a (env y ∷ []) [] ++ rest) ≡ map g (cond b (y ∷ filter passes ys) (filter passes ys))
    go true true e more = λ i. gives y i ∷ more i
    go false false e more = more
    go true false e more = absurd cc
    go false true e more = absurd cc

-- what a function makes of each way to fill the slot of a table is what it makes of the entries that pass
pub matched : {X Y : Type 0} (encode : X → Row) (make : Env → Y) (made : ℤ × X → Y) (passes : ℤ × X → Bool) (tests : List Term) (params : Row)
    → ((k : ℤ × X) → list_all (holds (params ∷ row_of encode k ∷ [])) tests ≡ passes k) → ((k : ℤ × X) → make (params ∷ row_of encode k ∷ []) ≡ made k)
    → (kept : List (ℤ × X)) → map make (flat_map (λ r. cond (list_all (holds (params ∷ r ∷ [])) tests) ((params ∷ r ∷ []) ∷ []) []) (map (row_of encode) kept)) ≡ map made (filter passes kept)
matched encode make made passes tests params tested makes kept =
    ap (map make) (flat_map-map (λ r. cond (list_all (holds (params ∷ r ∷ [])) tests) ((params ∷ r ∷ []) ∷ []) []) (row_of encode) kept)
    ∙ matches_show (λ k. params ∷ row_of encode k ∷ []) (λ k. list_all (holds (params ∷ row_of encode k ∷ [])) tests) passes make made tested makes kept

module _ {X : Type 0} (encode : X → Row) (shown : ℤ × X → Row) (passes : ℤ × X → Bool) (project tests : List Term) (params : Row)
    (tested : (k : ℤ × X) → list_all (holds (params ∷ row_of encode k ∷ [])) tests ≡ passes k)
    (showed : (k : ℤ × X) → eval_all project (params ∷ row_of encode k ∷ []) ≡ shown k) where
  -- the answer is what is shown of the entries that pass under their rowids, in some order
  pub answered_pairs : (db : Trees) (tree : ℕ) (rows : List Row) (xs : List X) → IsAnswer (plain_query project tests tree) db params rows → (keeps : Keeps encode (db tree) xs)
      → IsPermutation (map shown (filter passes keeps.kept)) rows
  answered_pairs db tree rows xs a keeps =
      let staged : a.staged ≡ flat_map (λ r. cond (list_all (holds (params ∷ r ∷ [])) tests) ((params ∷ r ∷ []) ∷ []) []) (map (row_of encode) keeps.kept) = a.grouped ∙ rw keeps.rows_are in
      let kept : a.kept ≡ map (output (plain_query project tests tree)) a.staged = a.distinct in
      let outputs : map (λ (o : Output). o.1) a.kept ≡ map shown (filter passes keeps.kept) =
      ap (map (λ (o : Output). o.1)) kept ∙ map-map _ _ a.staged ∙ ap (map (eval_all project)) staged ∙ matched encode (eval_all project) shown passes tests params tested showed keeps.kept in
      rw (outputs, ← a.shown) at (IsPermutation-map (λ (o : Output). o.1) a.kept a.ordered a.same)

module _ {X : Type 0} (encode : X → Row) (shown : ℤ × X → Row) (passes : X → Bool) (project tests : List Term) (params : Row)
    (tested : (k : ℤ × X) → list_all (holds (params ∷ row_of encode k ∷ [])) tests ≡ passes k.1)
    (showed : (k : ℤ × X) → eval_all project (params ∷ row_of encode k ∷ []) ≡ shown k) where
  -- the answer is what is shown of the entries that pass, in some order
  pub answered_kept : (db : Trees) (tree : ℕ) (rows : List Row) (xs : List X) → IsAnswer (plain_query project tests tree) db params rows → (keeps : Keeps encode (db tree) xs)
      → IsPermutation (map shown (filter (λ k. passes k.1) keeps.kept)) rows
  answered_kept = answered_pairs encode shown (λ k. passes k.1) project tests params tested showed

module _ {X : Type 0} (encode shown : X → Row) (passes : X → Bool) (project tests : List Term) (params : Row)
    (tested : (k : ℤ × X) → list_all (holds (params ∷ row_of encode k ∷ [])) tests ≡ passes k.1)
    (showed : (k : ℤ × X) → eval_all project (params ∷ row_of encode k ∷ []) ≡ shown k.1) where
  pub answered : (db : Trees) (tree : ℕ) (rows : List Row) (xs : List X) → IsAnswer (plain_query project tests tree) db params rows → Keeps encode (db tree) xs
      → IsPermutation (map shown (filter passes xs)) rows
  answered db tree rows xs a keeps =
      let got = answered_kept encode (λ k. shown k.1) passes project tests params tested showed db tree rows xs a keeps in
      let wanted = IsPermutation-map shown _ _ (IsPermutation-filter passes _ _ (IsPermutation-sym _ _ keeps.same)) in
      let as_pairs : map shown (filter passes (map (λ (k : ℤ × X). k.1) keeps.kept)) ≡ map (λ k. shown k.1) (filter (λ k. passes k.1) keeps.kept) =
      ap (map shown) (filter-map passes (λ (k : ℤ × X). k.1) keeps.kept) ∙ map-map _ _ _ in
      IsPermutation-trans _ _ _ (rw as_pairs at wanted) got

-- ---- what a query of a known meaning answers

module _ {X : Type 0} (encode shown : X → Row) (passes : X → Bool) (project tests : List Term) (schema : Schema) (sql : List ℕ) (params : Row) (tree : ℕ) (names : List (List ℕ))
    (means : Means schema sql (Select (record { lets = []; body = plain_query project tests tree }) names))
    (tested : (k : ℤ × X) → list_all (holds (params ∷ row_of encode k ∷ [])) tests ≡ passes k.1)
    (showed : (k : ℤ × X) → eval_all project (params ∷ row_of encode k ∷ []) ≡ shown k.1)
    (old new : State) (has : old.now.schema ≡ schema) (xs : List X) (keeps : Keeps encode (overlay old.now.trees [] tree) xs) where
  pub found_row : (row : Row) → QueriesRow sql params old new (Ok row) → (x : X) × Has xs x × (passes x ≡ true) × (row ≡ shown x)
  found_row row h =
      let got = (first_as sql params old new schema has _ means.is means.plain means.unlisted row h).1 in
      let same = answered encode shown passes project tests params tested showed (overlay old.now.trees []) tree (row ∷ got.0) xs (got.1 Null) keeps in
      let it = has_mapped shown (filter passes xs) row (has_permuted _ _ row (IsPermutation-sym _ _ same) (inl refl)) in
      let kept = has_filtered passes xs it.0 it.1 in
      (it.0, kept.0, kept.1, it.2)

  -- all rows of the answer, in some order
  pub found_rows : (rows : List Row) → Shown sql params old new rows → IsPermutation (map shown (filter passes xs)) rows
  found_rows rows h =
      let read = reads_as sql params old new schema has _ means.is means.plain means.unlisted rows h in
      answered encode shown passes project tests params tested showed (overlay old.now.trees []) tree rows xs (read.answer Null) keeps

  pub found_none : Shown sql params old new [] → (x : X) → Has xs x → passes x ≡ true → ⊥
  found_none h x has_x passed =
      has_permuted _ _ (shown x) (found_rows [] h) (mapped_has shown (filter passes xs) x (has_kept passes xs x has_x passed))
