use Rattle.std.proofs.Common.{rules}
use Rattle.office_store.proofs.Rows.{two_columns}
use Rattle.office_store.proofs.numbers.NumberedFromRowUnit.from_row.Goals as goal

pub returns-clause-value : goal.returns-clause-value
returns-clause-value c = two_columns c.args.row.now _ _ (search rules) c.in_ok-number_at.ensures.number.1 c.in_ok-state_at.ensures.state.1
