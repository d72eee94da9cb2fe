use Rattle.std.proofs.Common.{◌∙◌, inr, subst}
use Rattle.sqlite.specs.Held.{state}
use Rattle.sqlite.specs.State.{HasCleanDisk}
use Rattle.review_office.specs.Meant.{meaning_over}
use Rattle.journal.specs.Told.{place}
use Rattle.journal_office.proofs.Refusals.{stops_unread}
use Rattle.journal_office.proofs.office.AgainVisitor.stop.Goals as goal

pub returns : goal.returns
returns g c = λ begun from before at stopped. record {
  replayed = λ bytes first founded one.
      let so_far = at.replayed bytes first founded one in
      inr (stops_unread (meaning_over g.S.Store) bytes (place g.R.Read.remaining before.events) (place g.R.Read.remaining c.args._replay.now.events) so_far.0
      before.office c.args._replay.now.office c.args.refused.line c.args.refused.why stopped.office so_far.1 so_far.3 stopped.left);
  seen = λ bytes seen. tt;
  line = stopped.line ∙ at.line;
  clean = λ clean. at.clean (subst (λ office. HasCleanDisk (state g.S.Store office)) stopped.office clean);
}
