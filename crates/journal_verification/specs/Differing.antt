-- Where two lists of rows differ.
use Rattle.std.specs.Prelude.{◌≡◌, ◌≢◌, ◌⊎◌, ℕ, List, take, slice_get, Option, None, Some}
use Rattle.std.specs.declared.cmp.Ordering.{Ordering}
use Rattle.std.specs.declared.cmp.Ordering.TheVariants.{Less}
use Rattle.std.specs.Cmp.Lexicographic.{slice_cmp}
use Rattle.sqlite.specs.Order.{Row}
use Rattle.sqlite_value.specs.Order.{value_cmp}

-- the two lists are one before this place, and differ there
pub record IsFirstDifference {X : Type 0} (left right : List X) (at : ℕ) : Type 0 where
  pub before : take at left ≡ take at right
  pub differ : slice_get left at ≢ slice_get right at

-- by so many of their first columns, one after the other
abbrev pub columns_cmp : ℕ → Row → Row → Ordering
columns_cmp width left right = slice_cmp value_cmp (take width left) (take width right)

-- no other row is there, or it doesn't come before the row
abbrev pub IsNoneBefore : ℕ → Row → Option Row → Type 0
IsNoneBefore width row None = Unit {0}
IsNoneBefore width row (Some other) = columns_cmp width other row ≢ Less

-- the row stands in the first list where they first differ, and in the second none before it
pub record StandsFirst (width : ℕ) (left right : List Row) (row : Row) : Type 0 where
  pub at : ℕ
  pub differ : IsFirstDifference left right at
  pub there : slice_get left at ≡ Some row
  pub none : IsNoneBefore width row (slice_get right at)

-- the row stands in one of the lists where they first differ, and in the other none before it
abbrev pub IsFirstDiffering : ℕ → List Row → List Row → Row → Type 0
IsFirstDiffering width left right row =
    StandsFirst width left right row ⊎ StandsFirst width right left row

-- of two rows, each of which may be wanting and which aren't one, it is one that the other doesn't
-- come before
abbrev pub IsEarlier : ℕ → Option Row → Option Row → Row → Type 0
IsEarlier width left right row =
    (left ≢ right)
    × (((left ≡ Some row) × IsNoneBefore width row right)
    ⊎ ((right ≡ Some row) × IsNoneBefore width row left))
