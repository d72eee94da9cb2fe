use Rattle.std.proofs.Common.{sym, subst}
use Rattle.review_office.specs.Meant.{meaning_over}
use Rattle.journal.specs.Told.{place}
use Rattle.journal_reports.specs.History.{HasWritten}
use Rattle.journal_reports.specs.Passing.{Asked}
use Rattle.journal_reports.specs.Writing.{IsStopped}
use Rattle.journal_reports.proofs.Writing.{still_written}
use Rattle.journal_reports.proofs.history.WriterVisitor.stop.Goals as goal

pub returns : goal.returns
returns g c = λ begun from before at stopped. record {
  same_reference = at.same_reference;
  written = λ bytes old es all last.
      let m = meaning_over g.S.Store in
      let it = c.args.self.now in
      let here = place g.R.Read.remaining before.events in
      let out = g.W.Write.contents it.output.now.inner in
      let end = g.W.Write.contents c.write_last.new.output.inner in
      let office = c.args.replay.now.office in
      let so_far = at.written bytes old es all last in
      let was = still_written m bytes begun.filter.now old out here so_far.0 it.behind before.office office stopped.office so_far.1 in
      subst (λ (a : Asked). IsStopped bytes m a old end c.write_last.new.replay.office c.write_last.result) at.asked
      (c.write_last.ensures bytes old here so_far.0
      (subst (λ (a : Asked). HasWritten bytes a old out m office here so_far.0 it.behind office) (sym at.asked) was) so_far.2 stopped.left);
}
