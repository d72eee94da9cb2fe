use Rattle.std.proofs.Common.{rules}
use Rattle.office_store.proofs.Rows.{two_columns}
use Rattle.office_store.proofs.baselines.AdoptedFromRowGlobal.from_row.Goals as goal

pub returns-clause-value : goal.returns-clause-value
returns-clause-value c = two_columns c.args.row.now _ _ (search rules) c.in_ok-word_at.ensures.word.1 c.in_ok-number_at.ensures.number.1
