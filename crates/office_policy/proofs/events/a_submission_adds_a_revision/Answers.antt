use Rattle.office_policy.proofs.EventFacts.{submitted_tables}
use Rattle.office_policy.proofs.events.a_submission_adds_a_revision.Goals as goal

pub returns : goal.returns
returns c = submitted_tables
