-- A query of which the first rows alone are answered, as many as a limit lets.
use Rattle.std.proofs.Common.{◌≡◌, ℕ, List, map, take, pos, refl}
use Rattle.sqlite.specs.declared.types.Value.TheVariants.{Int}
use Rattle.sqlite.specs.Order.{Row}
use Rattle.sqlite.specs.Term.{Term, lit}
use Rattle.sqlite.specs.Query.{Query, Join, IsAnswer, Output}
use Rattle.sqlite_value.specs.declared.keys.Key.{Key}
use Rattle.sqlite_trees.specs.Tree.{Trees}
use Rattle.office_rows.proofs.InOrder.{ordered_query}

abbrev pub limited_query : List Term → List Term → Join → List (Term × Key) → ℕ → Query
limited_query project filter from order limit = record (ordered_query project filter from order) { limit = lit (Int (pos limit)) }

module _ (project tests : List Term) (from : Join) (order : List (Term × Key)) (limit : ℕ) (db : Trees) (params : Row) (rows : List Row)
    (a : IsAnswer (limited_query project tests from order limit) db params rows) where
  -- what would be answered without the limit
  abbrev pub whole : List Row
  whole = map (λ (o : Output). o.1) a.ordered

  pub whole_answered : IsAnswer (ordered_query project tests from order) db params whole
  whole_answered = record {
    staged = a.staged;
    grouped = a.grouped;
    kept = a.kept;
    distinct = a.distinct;
    ordered = a.ordered;
    same = a.same;
    sorted = a.sorted;
    shown = refl;
  }

  -- of that the first rows are answered
  pub first_answered : rows ≡ take limit whole
  first_answered = a.shown
