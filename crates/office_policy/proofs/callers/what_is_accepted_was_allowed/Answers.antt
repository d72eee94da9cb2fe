use Rattle.office_policy.proofs.CallerFacts.{for_caller}
use Rattle.office_policy.proofs.callers.what_is_accepted_was_allowed.Goals as goal

pub returns : goal.returns
returns c = for_caller
