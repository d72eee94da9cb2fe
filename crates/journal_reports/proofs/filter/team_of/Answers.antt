use Rattle.std.proofs.Common.{◌∙◌, ap, sym}
use Rattle.office_policy.specs.Happened.{event_meant}
use Rattle.journal_reports.specs.Passing.{team_of}
use Rattle.journal_reports.proofs.filter.team_of.Goals as goal

pub returns-in-Did : goal.returns-in-Did
returns-in-Did c = c.team_of_deed.ensures c.in-Did.caller ∙ ap (λ e. team_of (event_meant e)) (sym c.in-Did.is)
