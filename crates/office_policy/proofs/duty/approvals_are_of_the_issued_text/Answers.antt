use Rattle.office_policy.proofs.DutyFacts.{of_the_text}
use Rattle.office_policy.proofs.duty.approvals_are_of_the_issued_text.Goals as goal

pub returns : goal.returns
returns c = of_the_text
