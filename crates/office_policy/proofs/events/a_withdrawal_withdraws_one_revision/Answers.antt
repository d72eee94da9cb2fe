use Rattle.office_policy.proofs.EventFacts.{withdrawn_tables}
use Rattle.office_policy.proofs.events.a_withdrawal_withdraws_one_revision.Goals as goal

pub returns : goal.returns
returns c = withdrawn_tables
