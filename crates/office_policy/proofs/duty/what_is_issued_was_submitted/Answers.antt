use Rattle.office_policy.proofs.GivenOut.{issued_digest}
use Rattle.office_policy.proofs.duty.what_is_issued_was_submitted.Goals as goal

pub returns : goal.returns
returns c = issued_digest
