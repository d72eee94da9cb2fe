use Rattle.std.proofs.Common.{◌∙◌}
use Rattle.office_policy.specs.Happened.{event_meant}
use Rattle.review_office.specs.Meant.{meaning_over}
use Rattle.journal_reports.proofs.Searching.{line_seen, line_unseen}
use Rattle.journal_reports.proofs.sheet_before.history_text.Goals as goal

pub returns-in-Ok-made : goal.returns-in-Ok-made
returns-in-Ok-made g c = λ bytes here es before.
    line_seen (meaning_over g.S.Store) bytes here es c.args.office.now c.look_up.new.office c.args.placed.now.line (event_meant c.args.placed.now.event) c.in-Ok.found c.new.result
    (c.in-Ok.ensures bytes here es before) (c.new.ensures ∙ c.in-Ok-made.ensures)

pub returns-in-Err-made : goal.returns-in-Err-made
returns-in-Err-made g c = λ bytes here es before. tt

pub returns-in-Err : goal.returns-in-Err
returns-in-Err g c = λ bytes here es before.
    line_unseen (meaning_over g.S.Store) bytes here es c.args.office.now c.look_up.new.office c.args.placed.now.line c.in-Err.fault before (c.in-Err.ensures bytes here es before)
