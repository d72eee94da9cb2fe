use Rattle.office_policy.proofs.AskedFacts.{seen_by}
use Rattle.office_policy.proofs.callers.what_is_seen_was_asked.Goals as goal

pub returns : goal.returns
returns c = seen_by
