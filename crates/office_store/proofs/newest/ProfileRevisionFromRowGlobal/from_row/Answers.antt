use Rattle.std.proofs.Common.{rules}
use Rattle.office_store.proofs.Rows.{four_columns}
use Rattle.office_store.proofs.newest.ProfileRevisionFromRowGlobal.from_row.Goals as goal

pub returns-clause-value : goal.returns-clause-value
returns-clause-value c = four_columns c.args.row.now _ _ _ _ (search rules) c.in_ok-number_at.ensures.number.1 c.in_ok-state_at.ensures.state.1 c.in_ok-digest_at.ensures.digest.1 c.in_ok-word_at.ensures.word.1
