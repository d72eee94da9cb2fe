-- Rowids that rise, row after row.
use Rattle.std.specs.Prelude.{◌≡◌, ℤ, List, [], ◌∷◌, ◌++◌}
use Rattle.sqlite.specs.declared.types.Value.TheVariants.{Int}
use Rattle.sqlite.specs.Order.{Row}
use Rattle.sqlite_trees.specs.Tree.{rowid}
use Rattle.sqlite_trees.specs.View.{IsShaped}
use Rattle.sqlite_trees.specs.declared.store.Shape.TheVariants.{Table}
use Rattle.journal_verification.specs.declared.rows.Rising.{Rising}
use Rattle.journal_verification.specs.declared.rows.Rising.TheVariants as rising

-- the last of these rows begins with this rowid
pub record EndsWith (rows : List Row) (id : ℤ) : Type 0 where
  pub before : List Row
  pub last : Row
  pub parts : rows ≡ before ++ last ∷ []
  pub has : rowid last ≡ Int id

-- no rows are there; or each begins with a rowid above that of the row before, up to this last
-- one; or they don't
abbrev pub IsTold : List Row → Rising → Type 0
IsTold rows rising.Empty = rows ≡ []
IsTold rows (rising.UpTo id) = IsShaped Table rows × EndsWith rows id
IsTold rows rising.Fallen = IsShaped Table rows → ⊥
