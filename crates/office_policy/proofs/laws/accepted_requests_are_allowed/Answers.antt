use Rattle.office_policy.proofs.LawFacts.{requested_allowed}
use Rattle.office_policy.proofs.laws.accepted_requests_are_allowed.Goals as goal

pub returns : goal.returns
returns c = requested_allowed
