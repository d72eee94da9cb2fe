-- Rows of a table, and the entries that they stand for.
use Rattle.std.specs.Prelude.{◌≡◌, ℤ, Bool, true, false, List, ◌∷◌, map, IsPermutation}
use Rattle.std.specs.List.{AllByRecursion}
use Rattle.std.specs.Ordering.{is_eq}
use Rattle.sqlite.specs.declared.types.Value.TheVariants.{Int}
use Rattle.sqlite.specs.Order.{Row}
use Rattle.sqlite_value.specs.Order.{value_cmp}
use Rattle.sqlite_trees.specs.Tree.{IsAscending}

-- a row is its rowid and then the columns of an entry
abbrev pub row_of : {X : Type 0} → (X → Row) → ℤ × X → Row
row_of encode k = Int k.0 ∷ encode k.1

-- no two have one rowid
abbrev pub AreApart : {X : Type 0} → List (ℤ × X) → Type 0
AreApart = IsAscending (λ a b. is_eq (value_cmp (Int a.0) (Int b.0)) ≡ false)

-- the rows are these entries, each under a rowid of its own, in any order
pub record Keeps {X : Type 0} (encode : X → Row) (rows : List Row) (entries : List X) : Type 0 where
  pub kept : List (ℤ × X)
  pub rows_are : rows ≡ map (row_of encode) kept
  pub apart : AreApart kept
  pub same : IsPermutation (map (λ k. k.1) kept) entries

-- no two have one key
abbrev pub HaveOwnKeys : {K X : Type 0} → (K → X → Bool) → List X → Type 0
HaveOwnKeys {K} is_at = IsAscending (λ a b. (k : K) → is_at k a ≡ true → is_at k b ≡ false)

-- the rows of a table: each is an entry of the stated form, and each entry has a key of its own
pub record Stores {K X : Type 0} (encode : X → Row) (is_at : K → X → Bool)
    (IsFormed : X → Type 0) (rows : List Row) : Type 0 where
  pub entries : List X
  pub kept : Keeps encode rows entries
  pub own_keys : HaveOwnKeys is_at entries
  pub formed : AllByRecursion IsFormed entries
