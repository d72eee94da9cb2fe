use Rattle.office_policy.proofs.EventFacts.{voted_tables}
use Rattle.office_policy.proofs.events.a_vote_is_put.Goals as goal

pub returns : goal.returns
returns c = voted_tables
