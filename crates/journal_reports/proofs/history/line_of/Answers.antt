use Rattle.std.proofs.Common.{◌∙◌, refl, sym}
use Rattle.std.specs.Prelude.{string_bytes}
use Rattle.review_office.specs.Meant.{meaning_over}
use Rattle.journal.specs.Told.{placed_meant}
use Rattle.journal_reports.proofs.Writing.{a_line, no_line}
use Rattle.journal_reports.proofs.history.line_of.Goals as goal

pub returns-then-not-passes : goal.returns-then-not-passes
returns-then-not-passes g c = λ bytes here es before.
    no_line (meaning_over g.S.Store) bytes here es c.args.office.now c.args.filter.now (placed_meant c.args.placed.now) (string_bytes c.new.result) before
    (sym c.passes.ensures ∙ c.if-not-passes.true) c.new.ensures.bytes

pub returns-in-Ok-made : goal.returns-in-Ok-made
returns-in-Ok-made g c = λ bytes here es before.
    a_line (meaning_over g.S.Store) bytes here es c.args.office.now c.look_up.new.office c.args.filter.now (placed_meant c.args.placed.now) c.in-Ok.found (string_bytes c.in-Ok-made.text)
    (c.in-Ok.ensures bytes here es before) (sym c.passes.ensures ∙ c.if-not-passes.false) c.in-Ok-made.ensures

pub returns-in-Err-made : goal.returns-in-Err-made
returns-in-Err-made g c = λ bytes here es before. (c.in-Ok.ensures bytes here es before).clean

pub returns-in-Err : goal.returns-in-Err
returns-in-Err g c = λ bytes here es before. (refl, c.in-Err.ensures bytes here es before)
