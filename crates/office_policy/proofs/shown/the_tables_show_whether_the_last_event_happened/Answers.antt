use Rattle.office_policy.proofs.ShownFacts.{after_shown, before_shown}
use Rattle.office_policy.proofs.shown.the_tables_show_whether_the_last_event_happened.Goals as goal

pub returns-clause-shown : goal.returns-clause-shown
returns-clause-shown c = after_shown

pub returns-clause-hidden : goal.returns-clause-hidden
returns-clause-hidden c = before_shown
