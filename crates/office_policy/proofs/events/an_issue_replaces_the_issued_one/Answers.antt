use Rattle.office_policy.proofs.EventFacts.{issued_tables}
use Rattle.office_policy.proofs.events.an_issue_replaces_the_issued_one.Goals as goal

pub returns : goal.returns
returns c = issued_tables
