use Rattle.std.proofs.Common.{rules, ◌≡◌, refl, subst}
use Rattle.review_office.specs.Meant.{meaning_over}
use Rattle.journal_reports.specs.Writing.{WritesAll}
use Rattle.journal_reports.proofs.history.write_rest.Goals as goal

pub visit-requires-clause-begun : goal.visit-requires-clause-begun
visit-requires-clause-begun g c = record { same_reference = refl; asked = refl; written = λ bytes old es all last. (es, all, last) }

pub returns : goal.returns
returns g c = λ bytes from es all last.
    let name = c.visit.ensures.same_reference in
    let same : c.visit.new.visitor.output.now ≡ c.output-1.given.0 = search rules in
    subst (λ o. WritesAll bytes (meaning_over g.S.Store) c.args.filter.now from (g.W.Write.contents o.inner) c.visit.new.replay.office c.visit.result) same
    (c.visit.ensures.written bytes from es all last)
