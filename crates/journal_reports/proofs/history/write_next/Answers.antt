use Rattle.std.proofs.Common.{◌-◌, inl, refl, subst}
use Rattle.std.specs.Io.KnownBytes.{Appends}
use Rattle.review_office.specs.Meant.{meaning_over}
use Rattle.journal.specs.Told.{placed_meant}
use Rattle.journal_reports.specs.Struck.{struck_lines}
use Rattle.journal_reports.specs.Writing.{WritesPart}
use Rattle.journal_reports.proofs.Writing.{struck_stopped, struck_written}
use Rattle.journal_reports.proofs.history.write_next.Goals as goal

pub returns-in-Ok-clause-written : goal.returns-in-Ok-clause-written
returns-in-Ok-clause-written g c = λ bytes from here es before last comes.
    let out = g.W.Write.contents c.args.output.now.inner in
    let mid = g.W.Write.contents c.write_struck.new.output.inner in
    c.write_event.ensures.written bytes from here es
    (struck_written (meaning_over g.S.Store) bytes c.args.filter.now from out here es c.args.replay.now.office c.args.replay.now.office c.args.behind (c.args.placed.line - 1) mid refl before last
    (subst (λ n. Appends out mid (struck_lines c.args.filter.now c.args.behind (n - c.args.behind))) c.saturating_sub.ensures c.in-Ok.ensures))
    comes

pub returns-in-Err-clause-written : goal.returns-in-Err-clause-written
returns-in-Err-clause-written g c = λ bytes from here es before last comes.
    let out = g.W.Write.contents c.args.output.now.inner in
    let mid = g.W.Write.contents c.write_struck.new.output.inner in
    struck_stopped (meaning_over g.S.Store) bytes c.args.filter.now from out here es c.args.replay.now.office c.args.replay.now.office c.args.behind (c.args.placed.line - 1) mid c.in-Err.why refl before last
    (inl (placed_meant c.args.placed, comes, refl))
    (subst (λ n. WritesPart out mid (struck_lines c.args.filter.now c.args.behind (n - c.args.behind)) c.in-Err.why) c.saturating_sub.ensures c.in-Err.ensures)
