use Rattle.office_policy.proofs.ShownFacts.{shown_unchanged}
use Rattle.office_policy.proofs.shown.what_is_shown_before_changes_nothing.Goals as goal

pub returns : goal.returns
returns c = shown_unchanged
