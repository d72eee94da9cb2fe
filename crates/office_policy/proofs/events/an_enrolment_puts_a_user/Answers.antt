use Rattle.office_policy.proofs.EventFacts.{enrolled_tables}
use Rattle.office_policy.proofs.events.an_enrolment_puts_a_user.Goals as goal

pub returns : goal.returns
returns c = enrolled_tables
