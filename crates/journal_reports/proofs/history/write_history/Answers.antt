use Rattle.std.proofs.Common.{◌∙◌, inl, refl, sym, subst}
use Rattle.review_office.specs.Meant.{meaning_over}
use Rattle.journal_reports.specs.History.{IsUnwritten, IsWritten}
use Rattle.journal_reports.proofs.Writing.{unwritten}
use Rattle.journal_reports.proofs.history.write_history.Goals as goal

pub returns-in-Err-clause-unwritten : goal.returns-in-Err-clause-unwritten
returns-in-Err-clause-unwritten g c = inl (c.in-Err.ensures.unbegun, refl)

pub returns-in-Ok-written-clause-written : goal.returns-in-Ok-written-clause-written
returns-in-Ok-written-clause-written g c =
    let bytes = g.R.Read.remaining c.args.journal in
    subst (λ left. IsWritten bytes c.args.filter.now (g.W.Write.contents c.args.output.now.inner) (g.W.Write.contents c.write_all-written.new.output.inner) (meaning_over g.S.Store) left)
    (sym (c.into_connection-conn.ensures.connection ∙ c.into_office.ensures)) (c.in-Ok-written.ensures bytes c.in-Ok.ensures.begun.told c.in-Ok.ensures.begun.stands)

pub returns-in-Err-written-clause-unwritten : goal.returns-in-Err-written-clause-unwritten
returns-in-Err-written-clause-unwritten g c =
    let bytes = g.R.Read.remaining c.args.journal in
    let old = g.W.Write.contents c.args.output.now.inner in
    let new = g.W.Write.contents c.write_all-written.new.output.inner in
    subst (λ left. IsUnwritten bytes c.args.filter.now old new g.S.Store c.args.conn left c.in-Err-written.why)
    (sym (c.into_connection-conn.ensures.connection ∙ c.into_office.ensures))
    (unwritten g.S.Store bytes c.args.filter.now old new c.args.conn _ c.in-Err-written.why (c.in-Err-written.ensures bytes c.in-Ok.ensures.begun.told c.in-Ok.ensures.begun.stands))
