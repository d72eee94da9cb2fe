use Rattle.std.specs.Prelude.{◌≡◌, map, take}
use Rattle.office_store.proofs.from_row.read_each.Given as goal

abbrev pub invariant-loop-row : goal.invariant-loop-row
invariant-loop-row g l = take l.row-index l.rows ≡ map g.R.FromRow.encode l.values.items
