use Rattle.office_policy.proofs.DutyFacts.{by_others}
use Rattle.office_policy.proofs.duty.approvals_are_by_others.Goals as goal

pub returns : goal.returns
returns c = by_others
