use Rattle.office_policy.proofs.IssuedFacts.{issued_is}
use Rattle.office_policy.proofs.issued.the_issued_revision_is_of_the_newest_issue.Goals as goal

pub returns : goal.returns
returns c = issued_is
