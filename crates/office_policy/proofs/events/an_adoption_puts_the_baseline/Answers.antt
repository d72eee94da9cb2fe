use Rattle.office_policy.proofs.EventFacts.{adopted_tables}
use Rattle.office_policy.proofs.events.an_adoption_puts_the_baseline.Goals as goal

pub returns : goal.returns
returns c = adopted_tables
