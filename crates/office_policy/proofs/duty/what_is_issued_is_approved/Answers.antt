use Rattle.office_policy.proofs.HeadlineFacts.{issued_approved}
use Rattle.office_policy.proofs.duty.what_is_issued_is_approved.Goals as goal

pub returns : goal.returns
returns c = issued_approved
