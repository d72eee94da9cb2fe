use Rattle.office_policy.proofs.GivenOut.{told_as_fetched}
use Rattle.office_policy.proofs.duty.what_is_issued_now_is_what_is_fetched.Goals as goal

pub returns : goal.returns
returns c = told_as_fetched
