use Rattle.std.specs.Prelude.{string_bytes}
use Rattle.review_office.specs.Meant.{meaning_over}
use Rattle.journal.specs.Told.{placed_meant}
use Rattle.journal_reports.proofs.Writing.{kept_out, no_more, written_next}
use Rattle.journal_reports.proofs.history.write_event.Goals as goal

pub returns-in-Ok-happen-clause-written : goal.returns-in-Ok-happen-clause-written
returns-in-Ok-happen-clause-written g c = λ bytes from here es before comes.
    let m = meaning_over g.S.Store in
    written_next m bytes c.args.filter.now from (g.W.Write.contents c.args.output.now.inner) here es c.args.replay.now.office
    (placed_meant c.args.placed) before comes c.line_of-made.new.office c.happen.new.self.office (string_bytes c.in-Ok.line) (c.in-Ok.ensures bytes here es before.replayed) c.happen.ensures.survives
    (g.W.Write.contents c.write_line.new.output.inner) c.write_line.result c.in-Ok-happen.ensures.happened c.write_line.ensures

pub returns-in-Err-happen-clause-written : goal.returns-in-Err-happen-clause-written
returns-in-Err-happen-clause-written g c = λ bytes from here es before comes.
    let m = meaning_over g.S.Store in
    kept_out m bytes c.args.filter.now from (g.W.Write.contents c.args.output.now.inner) here es c.args.replay.now.office
    (placed_meant c.args.placed) before comes c.line_of-made.new.office c.happen.new.self.office (string_bytes c.in-Ok.line) (c.in-Ok.ensures bytes here es before.replayed) c.happen.ensures.survives
    c.in-Err-happen.refused c.in-Err-happen.ensures.happened

pub returns-in-Err-clause-written : goal.returns-in-Err-clause-written
returns-in-Err-clause-written g c = λ bytes from here es before comes.
    no_more (meaning_over g.S.Store) bytes c.args.filter.now from (g.W.Write.contents c.args.output.now.inner) here es c.args.replay.now.office
    (placed_meant c.args.placed) before comes c.line_of-made.new.office c.in-Err.why (c.in-Err.ensures bytes here es before.replayed)
