use Rattle.office_policy.proofs.EventFacts.{acted_tables}
use Rattle.office_policy.proofs.events.an_act_on_a_profile_is_of_its_hold.Goals as goal

pub returns-clause-put : goal.returns-clause-put
returns-clause-put c = acted_tables
