use Rattle.office_policy.proofs.AskedFacts.{asked_by}
use Rattle.office_policy.proofs.callers.what_happens_was_asked.Goals as goal

pub returns : goal.returns
returns c = asked_by
