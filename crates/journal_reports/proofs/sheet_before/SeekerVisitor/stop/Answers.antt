use Rattle.review_office.specs.Meant.{meaning_over}
use Rattle.journal.specs.Told.{place}
use Rattle.journal_office.proofs.Refusals.{left_behind}
use Rattle.journal_reports.proofs.sheet_before.SeekerVisitor.stop.Goals as goal

pub returns : goal.returns
returns g c = λ begun from before at stopped bytes es all none.
    let so_far = at.none bytes es all none in
    left_behind (meaning_over g.S.Store) bytes (place g.R.Read.remaining before.events) (place g.R.Read.remaining c.args._replay.now.events) so_far.0 before.office c.args._replay.now.office
    c.args.refused.line c.args.refused.why stopped.office so_far.1 stopped.left
