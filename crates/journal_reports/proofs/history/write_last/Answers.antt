use Rattle.std.proofs.Common.{◌∙◌, ◌-◌, ap, subst}
use Rattle.std.specs.Io.KnownBytes.{Appends}
use Rattle.review_office.specs.Meant.{meaning_over}
use Rattle.journal.specs.Told.{place, placed_meant}
use Rattle.journal_office.proofs.Comes.{last_comes}
use Rattle.journal_reports.specs.Struck.{struck_lines}
use Rattle.journal_reports.specs.Writing.{WritesPart}
use Rattle.journal_reports.proofs.Writing.{cut_behind, cut_off, none_left, still_written, struck_stopped, struck_written}
use Rattle.journal_reports.proofs.history.write_last.Goals as goal

pub returns-in-Ok : goal.returns-in-Ok
returns-in-Ok g c = λ bytes from here es before last at.
    let m = meaning_over g.S.Store in
    let after = place g.R.Read.remaining c.args.replay.now.events in
    let placed = placed_meant c.in-Some.placed in
    let is = c.in-Some.ensures.held in
    cut_behind m bytes c.args.filter.now from (g.W.Write.contents c.write_next.new.output.inner) here after es placed c.write_next.new.replay.office c.args.refused.line c.args.refused.why
    before.replayed.told at is
    (c.in-Ok.ensures.written bytes from here es
    (still_written m bytes c.args.filter.now from (g.W.Write.contents c.args.output.now.inner) here es c.args.behind c.args.replay.now.office c.held_back.new.self.office c.in-Some.ensures.office before) last
    (last_comes here after c.args.refused.line c.args.refused.why placed at is))

pub returns-in-Err : goal.returns-in-Err
returns-in-Err g c = λ bytes from here es before last at.
    c.in-Err.ensures.written bytes from here es
    (still_written (meaning_over g.S.Store) bytes c.args.filter.now from (g.W.Write.contents c.args.output.now.inner) here es c.args.behind c.args.replay.now.office c.held_back.new.self.office
    c.in-Some.ensures.office before) last
    (last_comes here (place g.R.Read.remaining c.args.replay.now.events) c.args.refused.line c.args.refused.why (placed_meant c.in-Some.placed) at c.in-Some.ensures.held)

pub returns-in-Ok-write_struck : goal.returns-in-Ok-write_struck
returns-in-Ok-write_struck g c = λ bytes from here es before last at.
    let m = meaning_over g.S.Store in
    let after = place g.R.Read.remaining c.args.replay.now.events in
    let out = g.W.Write.contents c.args.output.now.inner in
    let wrote = g.W.Write.contents c.write_struck.new.output.inner in
    cut_off m bytes c.args.filter.now from wrote here after es c.held_back.new.self.office c.args.refused.line c.args.refused.why
    (struck_written m bytes c.args.filter.now from out here es c.args.replay.now.office c.held_back.new.self.office c.args.behind after.taken wrote c.in-None.ensures.office before last
    (subst (λ n. Appends out wrote (struck_lines c.args.filter.now c.args.behind (n - c.args.behind))) (c.taken.ensures ∙ ap (λ p. p.taken) c.in-None.ensures.place) c.in-Ok-write_struck.ensures))
    at c.in-None.ensures.held

pub returns-in-Err-write_struck : goal.returns-in-Err-write_struck
returns-in-Err-write_struck g c = λ bytes from here es before last at.
    let m = meaning_over g.S.Store in
    let after = place g.R.Read.remaining c.args.replay.now.events in
    let out = g.W.Write.contents c.args.output.now.inner in
    let wrote = g.W.Write.contents c.write_struck.new.output.inner in
    struck_stopped m bytes c.args.filter.now from out here es c.args.replay.now.office c.held_back.new.self.office c.args.behind after.taken wrote c.in-Err-write_struck.other c.in-None.ensures.office before last
    (none_left m bytes c.args.filter.now from out here after c.args.refused.line c.args.refused.why at)
    (subst (λ n. WritesPart out wrote (struck_lines c.args.filter.now c.args.behind (n - c.args.behind)) c.in-Err-write_struck.other) (c.taken.ensures ∙ ap (λ p. p.taken) c.in-None.ensures.place)
    c.in-Err-write_struck.ensures)
