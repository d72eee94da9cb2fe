-- What a query of all rows of a table answers, whatever they are.
use Rattle.std.proofs.Common.{inl, ◌≡◌, ℕ, List, [], ◌∷◌, map, refl, ap, ◌∙◌}
use Rattle.std.specs.List.{flat_map}
use Rattle.std.proofs.lemmas.List.Sorted.{IsPermutation-sym, IsPermutation-map}
use Rattle.sqlite.specs.Order.{Row}
use Rattle.sqlite.specs.Term.{Term, eval_all}
use Rattle.sqlite.specs.Query.{IsAnswer, Output, output}
use Rattle.sqlite_trees.specs.Tree.{Trees}
use Rattle.sqlite_trees.proofs.ListLemmas.{map-map}
use Rattle.sqlite_rules.specs.Lists.{Has}
use Rattle.office_rows.proofs.Plain.{plain_query}
use Rattle.office_rows.proofs.Rowids.{has_mapped, has_permuted}

each_alone : {X Y : Type 0} (f : X → Y) (xs : List X) → flat_map (λ x. f x ∷ []) xs ≡ map f xs
each_alone f [] = refl
each_alone f (x ∷ xs) = ap (λ l. f x ∷ l) (each_alone f xs)

-- each row of the answer is what is shown of a row of the table
pub row_shown : (project : List Term) (params : Row) (db : Trees) (tree : ℕ) (row : Row) (rows : List Row) → IsAnswer (plain_query project [] tree) db params (row ∷ rows)
    → (r : Row) × Has (db tree) r × (row ≡ eval_all project (params ∷ r ∷ []))
row_shown project params db tree row rows a =
    let env = λ (r : Row). params ∷ r ∷ [] in
    let staged : a.staged ≡ map env (db tree) = a.grouped ∙ each_alone env (db tree) in
    let kept : a.kept ≡ map (output (plain_query project [] tree)) a.staged = a.distinct in
    let outputs : map (λ (o : Output). o.1) a.kept ≡ map (λ (r : Row). eval_all project (params ∷ r ∷ [])) (db tree) =
    ap (map (λ (o : Output). o.1)) kept ∙ map-map _ _ a.staged ∙ ap (map (eval_all project)) staged ∙ map-map _ _ (db tree) in
    let same = rw (outputs, ← a.shown) at (IsPermutation-map (λ (o : Output). o.1) a.kept a.ordered a.same) in
    has_mapped (λ (r : Row). eval_all project (params ∷ r ∷ [])) (db tree) row (has_permuted _ _ row (IsPermutation-sym _ _ same) (inl refl))
