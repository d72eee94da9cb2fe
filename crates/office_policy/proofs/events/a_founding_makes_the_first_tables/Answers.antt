use Rattle.office_policy.proofs.EventFacts.{founding_tables}
use Rattle.office_policy.proofs.events.a_founding_makes_the_first_tables.Goals as goal

pub returns : goal.returns
returns c = founding_tables
