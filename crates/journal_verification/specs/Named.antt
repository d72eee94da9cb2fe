-- The difference that a row makes.
use Rattle.std.specs.Prelude.{◌≡◌, ◌⊎◌, ◌<◌, ◌^◌, ℕ, pos, List, length, true}
use Rattle.sqlite.specs.declared.types.Value.TheVariants.{Int, Text}
use Rattle.sqlite.specs.Order.{Row}
use Rattle.sqlite_value.specs.Order.{column}
use Rattle.office_words.specs.declared.name.ProfileName.{ProfileName}
use Rattle.office_words.specs.Words.{is_word}
use Rattle.journal_faults.specs.declared.difference.Difference.{Difference}
use Rattle.journal_faults.specs.declared.difference.Difference.TheVariants as difference
use Rattle.journal_faults.specs.declared.table.Table.{Table}
use Rattle.journal_faults.specs.declared.table.Table.TheVariants as table

-- the first two columns are the team and the name of this profile
abbrev pub IsProfileAt : Row → ProfileName → Type 0
IsProfileAt row p = (column row 0 ≡ Text p.team) × (column row 1 ≡ Text p.profile)

-- the difference names the key of this row of the table
abbrev pub IsKeyOf : Table → Row → Difference → Type 0
IsKeyOf t row difference.Schema = ⊥
IsKeyOf t row difference.Office = t ≡ table.Office
IsKeyOf t row (difference.User name) = (t ≡ table.Users) × (column row 0 ≡ Text name)
IsKeyOf t row (difference.Revision p number) =
    (t ≡ table.Revisions) × IsProfileAt row p × (column row 2 ≡ Int (pos number))
IsKeyOf t row (difference.Vote p number voter) =
    (t ≡ table.Votes) × IsProfileAt row p × (column row 2 ≡ Int (pos number))
    × (column row 3 ≡ Text voter)
IsKeyOf t row (difference.Baseline team) = (t ≡ table.Baselines) × (column row 0 ≡ Text team)
IsKeyOf t row (difference.Hold p) = (t ≡ table.Holds) × IsProfileAt row p
IsKeyOf t row (difference.Row s) = ⊥
IsKeyOf t row difference.Line = ⊥

-- a word or a number stands in this column
abbrev pub HasWord : Row → ℕ → Type 0
HasWord row at =
    (at < length row) × ((word : List ℕ) × (column row at ≡ Text word) × (is_word word ≡ true))

abbrev pub HasNumber : Row → ℕ → Type 0
HasNumber row at =
    (at < length row) × ((number : ℕ) × (column row at ≡ Int (pos number)) × (number < 2 ^ 32))

abbrev pub HasProfile : Row → Type 0
HasProfile row = HasWord row 0 × HasWord row 1

-- the row has the columns of a key
abbrev pub HasKey : Table → Row → Type 0
HasKey table.Office row = Unit {0}
HasKey table.Users row = HasWord row 0
HasKey table.Revisions row = HasProfile row × HasNumber row 2
HasKey table.Votes row = HasProfile row × HasNumber row 2 × HasWord row 3
HasKey table.Baselines row = HasWord row 0
HasKey table.Holds row = HasProfile row

-- a row is named by its key, or where it has none by its table
abbrev pub IsNamed : Table → Row → Difference → Type 0
IsNamed t row d = IsKeyOf t row d ⊎ ((d ≡ difference.Row t) × (HasKey t row → ⊥))
