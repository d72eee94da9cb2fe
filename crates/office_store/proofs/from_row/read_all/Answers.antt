use Rattle.std.proofs.Common.{rules}
use Rattle.office_rows.specs.Told.{TellsAll}
use Rattle.office_store.proofs.ToldLists.{all_failed, all_told, tells_all}
use Rattle.office_store.proofs.from_row.read_all.Goals as goal

pub returns-in_err-rows : goal.returns-in_err-rows
returns-in_err-rows g c = all_failed (TellsAll g.R.FromRow.encode g.R.FromRow.IsFormed) (λ rows. rows.items) (λ values. values.items) c.args.found _ _ c.in_err-rows.was (search rules)

pub returns : goal.returns
returns g c =
    all_told (TellsAll g.R.FromRow.encode g.R.FromRow.IsFormed) (λ rows. rows.items) (λ values. values.items) c.args.found _ c.in_ok-rows.was _ c.as_slice.ensures.value c.read_each.result
    (tells_all (λ values. values.items) g.R.FromRow.encode g.R.FromRow.IsFormed _ c.read_each.result c.read_each.ensures.values c.read_each.ensures.formed c.read_each.ensures.cause)
