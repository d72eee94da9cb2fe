use Rattle.office_policy.proofs.GivenOut.{shown_text}
use Rattle.office_policy.proofs.duty.what_is_shown_was_submitted.Goals as goal

pub returns : goal.returns
returns c = shown_text
