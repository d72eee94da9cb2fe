use Rattle.std.proofs.Common.{Err, sym, subst}
use Rattle.review_office.specs.Meant.{meaning_over}
use Rattle.journal.specs.Told.{place}
use Rattle.journal_office.specs.Rebuilt.{HasReplayed}
use Rattle.journal_reports.specs.declared.sheet_before.Seeker.{Seeker}
use Rattle.journal_reports.specs.Steps.{NoneWanted, Searches}
use Rattle.journal_reports.proofs.Searching.{never}
use Rattle.journal_reports.proofs.sheet_before.SeekerVisitor.end.Goals as goal

pub returns : goal.returns
returns g c = λ begun from before at ended bytes es all none.
    let m = meaning_over g.S.Store in
    let here = place g.R.Read.remaining before.events in
    let it = c.args.self.now in
    let office = c.args._replay.now.office in
    let so_far = at.none bytes es all none in
    subst (λ (s : Seeker). Searches bytes s.name.now s.number s.line m office (Err c.none_of.result)) at.same
    (subst (λ e. Searches bytes it.name.now it.number it.line m office (Err e)) (sym c.none_of.ensures)
    (never m bytes it.name.now it.number it.line here (place g.R.Read.remaining c.args._replay.now.events) so_far.0 office
    (subst (λ office. HasReplayed bytes m here so_far.0 office) (sym ended.read.office) so_far.1) ended.ends
    (subst (λ (s : Seeker). NoneWanted s.name.now s.number s.line so_far.0) (sym at.same) so_far.2)))
