use Rattle.std.proofs.Common.{rules}
use Rattle.office_store.proofs.Rows.{two_columns}
use Rattle.office_store.proofs.votes.BallotFromRowUnit.from_row.Goals as goal

pub returns-clause-value : goal.returns-clause-value
returns-clause-value c = two_columns c.args.row.now _ _ (search rules) c.in_ok-flag_at.ensures.flag.1 c.in_ok-flag_at-2.ensures.flag.1
