use Rattle.std.proofs.Common.{◌∙◌, ap, sym}
use Rattle.office_policy.specs.Happened.{event_meant}
use Rattle.journal.specs.Writers.{table_of}
use Rattle.journal.proofs.writers.table_of.Goals as goal

pub returns-in-Did : goal.returns-in-Did
returns-in-Did c = c.table_of_deed.ensures c.in-Did.caller ∙ ap (λ e. table_of (event_meant e)) (sym c.in-Did.is)
