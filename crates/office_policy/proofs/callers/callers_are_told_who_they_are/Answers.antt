use Rattle.office_policy.proofs.AskedFacts.{caller_told}
use Rattle.office_policy.proofs.callers.callers_are_told_who_they_are.Goals as goal

pub returns : goal.returns
returns c = caller_told
