-- Why SQLite takes no row into a table, where no key is at fault.
use Rattle.std.specs.Prelude.{◌≡◌, ◌⊎◌, ◌<◌, ◌^◌, ◌+◌, true, false, List, [], ◌∷◌, length, sum_by}
use Rattle.std.specs.List.{list_all}
use Rattle.sqlite.specs.declared.types.Value.TheVariants.{Int}
use Rattle.sqlite.specs.Order.{Row}
use Rattle.sqlite.specs.Tree.{rowid}
use Rattle.sqlite_rules.specs.Edit.{id_in, next_rowid, is_taken}
use Rattle.sqlite_sql.specs.Ops.{fits_i64}
use Rattle.sqlite_value.specs.Order.{bytes}

-- one of the rows has a rowid of more than 64 bits
abbrev pub HasLongRowid : List Row → Type 0
HasLongRowid rows = list_all (λ r. fits_i64 (id_in (rowid r))) rows ≡ false

-- A table with these rows has no rowid for a new one: that above its last row's is taken, or has
-- more than 64 bits. Or a row that is there has such a rowid.
abbrev pub LacksRowid : List Row → Type 0
LacksRowid rows =
    (is_taken rows (Int (next_rowid rows) ∷ []) ≡ true)
    ⊎ ((fits_i64 (next_rowid rows) ≡ false) ⊎ HasLongRowid rows)

-- the row has more than a billion bytes, with 18 for the type and the number of each value
abbrev pub IsBig : Row → Type 0
IsBig row = 10 ^ 9 < sum_by (λ v. 18 + length (bytes v)) row
