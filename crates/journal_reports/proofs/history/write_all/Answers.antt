use Rattle.std.proofs.Common.{rules, ◌≡◌, Err, ◌-◌, ◌∷◌, [], refl, subst}
use Rattle.std.specs.Io.KnownBytes.{Appends}
use Rattle.review_office.specs.Meant.{meaning_over}
use Rattle.journal.specs.Told.{place, placed_meant, start}
use Rattle.journal_office.specs.Steps.{IsFirstRead}
use Rattle.journal_office.proofs.Comes.{first_comes}
use Rattle.journal_reports.specs.Struck.{struck_lines}
use Rattle.journal_reports.specs.Writing.{WritesPart}
use Rattle.journal_reports.proofs.Writing.{first_cut, first_stopped, first_written, none_first}
use Rattle.journal_reports.proofs.history.write_all.Goals as goal

pub returns-in-None : goal.returns-in-None
returns-in-None g c = λ bytes first stands.
    let from = g.W.Write.contents c.args.output.now.inner in
    let mid = g.W.Write.contents c.write_struck.new.output.inner in
    let here = place g.R.Read.remaining c.args.replay.now.events in
    let placed = placed_meant c.args.first in
    c.write_rest.ensures bytes from (placed ∷ [])
    (first_written (meaning_over g.S.Store) bytes c.args.filter.now from mid (g.W.Write.contents c.write_first.new.output.inner) here placed c.args.replay.now.office c.requires.founding stands
    (subst (λ n. Appends from mid (struck_lines c.args.filter.now 0 (n - 0))) c.saturating_sub.ensures c.in_ok-write_struck.ensures)
    (subst (λ halt. IsFirstRead (start bytes) here placed halt) c.in-None.is first) c.in_ok-write_first.ensures)
    refl

pub returns-in-Some : goal.returns-in-Some
returns-in-Some g c = λ bytes first stands.
    let from = g.W.Write.contents c.args.output.now.inner in
    let mid = g.W.Write.contents c.write_struck.new.output.inner in
    let here = place g.R.Read.remaining c.args.replay.now.events in
    let placed = placed_meant c.args.first in
    first_cut (meaning_over g.S.Store) bytes c.args.filter.now from mid (g.W.Write.contents c.write_first.new.output.inner) here placed c.args.replay.now.office c.requires.founding stands
    (subst (λ n. Appends from mid (struck_lines c.args.filter.now 0 (n - 0))) c.saturating_sub.ensures c.in_ok-write_struck.ensures)
    c.in-Some.refused.line c.in-Some.refused.why (subst (λ halt. IsFirstRead (start bytes) here placed halt) c.in-Some.is first).0 c.in_ok-write_first.ensures

pub returns-in_err-write_first : goal.returns-in_err-write_first
returns-in_err-write_first g c =
    let told : c.from_residual-in_err-write_first.result ≡ Err c.in_err-write_first.field-0.0 = search rules in
    rw told (λ bytes first stands.
    let from = g.W.Write.contents c.args.output.now.inner in
    let mid = g.W.Write.contents c.write_struck.new.output.inner in
    let here = place g.R.Read.remaining c.args.replay.now.events in
    let placed = placed_meant c.args.first in
    first_stopped (meaning_over g.S.Store) bytes c.args.filter.now from mid (g.W.Write.contents c.write_first.new.output.inner) here placed c.args.replay.now.office c.requires.founding stands
    (subst (λ n. Appends from mid (struck_lines c.args.filter.now 0 (n - 0))) c.saturating_sub.ensures c.in_ok-write_struck.ensures)
    (first_comes (start bytes) here placed c.args.halt first) c.in_err-write_first.field-0.0 c.in_err-write_first.ensures)

pub returns-in_err-write_struck : goal.returns-in_err-write_struck
returns-in_err-write_struck g c =
    let told : c.from_residual.result ≡ Err c.in_err-write_struck.field-0.0 = search rules in
    rw told (λ bytes first stands.
    let from = g.W.Write.contents c.args.output.now.inner in
    let mid = g.W.Write.contents c.write_struck.new.output.inner in
    let here = place g.R.Read.remaining c.args.replay.now.events in
    let placed = placed_meant c.args.first in
    none_first (meaning_over g.S.Store) bytes c.args.filter.now from mid placed c.args.replay.now.office (first_comes (start bytes) here placed c.args.halt first) c.in_err-write_struck.field-0.0
    (subst (λ n. WritesPart from mid (struck_lines c.args.filter.now 0 (n - 0)) c.in_err-write_struck.field-0.0) c.saturating_sub.ensures c.in_err-write_struck.ensures))
