use Rattle.office_policy.proofs.GivenOut.{fetched_text}
use Rattle.office_policy.proofs.duty.what_is_fetched_was_issued.Goals as goal

pub returns : goal.returns
returns c = fetched_text
