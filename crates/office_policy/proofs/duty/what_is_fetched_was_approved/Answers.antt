use Rattle.office_policy.proofs.HeadlineFacts.{fetched_approved}
use Rattle.office_policy.proofs.duty.what_is_fetched_was_approved.Goals as goal

pub returns : goal.returns
returns c = fetched_approved
