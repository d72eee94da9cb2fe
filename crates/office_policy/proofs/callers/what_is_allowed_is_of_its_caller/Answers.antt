use Rattle.office_policy.proofs.CallerFacts.{allowed_by, allowed_may}
use Rattle.office_policy.proofs.callers.what_is_allowed_is_of_its_caller.Goals as goal

pub returns-clause-caller : goal.returns-clause-caller
returns-clause-caller c = allowed_by

pub returns-clause-may : goal.returns-clause-may
returns-clause-may c = allowed_may
