use Rattle.office_policy.proofs.ShownFacts.{last_shown}
use Rattle.office_policy.proofs.shown.the_last_event_is_shown.Goals as goal

pub returns : goal.returns
returns c = last_shown
