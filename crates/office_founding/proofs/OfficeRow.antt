-- The row of the office is one of its table.
use Rattle.std.proofs.Common.{◌≡◌, [], ◌∷◌, Ok}
use Rattle.sqlite.specs.declared.types.Value.TheVariants.{Null}
use Rattle.sqlite.specs.Order.{Row}
use Rattle.sqlite.specs.Program.{overlay}
use Rattle.sqlite.specs.State.{State, QueriesRow}
use Rattle.sqlite.proofs.Callers.{first_as}
use Rattle.sqlite_value.specs.Order.{column}
use Rattle.sqlite_rules.specs.Lists.{Has}
use Rattle.office_rows.proofs.Whole.{row_shown}
use Rattle.office_founding.specs.declared.form.TheConstants.{OFFICE_ROW}
use Rattle.office_store.specs.Schema.{office_schema}
use Rattle.office_founding.proofs.FormReads.{columns, form_means}

pub shown_row : (old new : State) (row : Row) → old.now.schema ≡ office_schema → QueriesRow OFFICE_ROW.now [] old new (Ok row)
    → (r : Row) × Has (old.now.trees 0) r × (row ≡ column r 0 ∷ column r 2 ∷ column r 3 ∷ [])
shown_row old new row has h =
    let got = (first_as OFFICE_ROW.now [] old new office_schema has _ form_means.is form_means.plain form_means.unlisted row h).1 in
    row_shown columns [] (overlay old.now.trees []) 0 row got.0 (got.1 Null)
