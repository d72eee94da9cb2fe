use Rattle.std.proofs.Common.{◌∙◌, ap, sym}
use Rattle.office_policy.specs.Happened.{event_meant}
use Rattle.office_policy.specs.Revisions.{issues}
use Rattle.journal_reports.proofs.sheet_before.issues.Goals as goal

pub returns-in-Did : goal.returns-in-Did
returns-in-Did c = c.issues_by.ensures c.in-Did.caller ∙ ap (λ e. issues c.args.name.now c.args.number (event_meant e)) (sym c.in-Did.is)
