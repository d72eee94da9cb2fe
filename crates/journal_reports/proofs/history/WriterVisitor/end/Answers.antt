use Rattle.std.proofs.Common.{◌-◌, subst}
use Rattle.review_office.specs.Meant.{meaning_over}
use Rattle.journal.specs.Told.{place}
use Rattle.journal_reports.specs.Passing.{Asked}
use Rattle.journal_reports.specs.Struck.{struck_lines}
use Rattle.journal_reports.specs.Writing.{WritesFirst}
use Rattle.journal_reports.proofs.Writing.{whole}
use Rattle.journal_reports.proofs.history.WriterVisitor.end.Goals as goal

pub returns : goal.returns
returns g c = λ begun from before at over. record {
  same_reference = at.same_reference;
  written = λ bytes old es all last.
      let m = meaning_over g.S.Store in
      let it = c.args.self.now in
      let here = place g.R.Read.remaining before.events in
      let end = place g.R.Read.remaining c.args.replay.now.events in
      let out = g.W.Write.contents it.output.now.inner in
      let wrote = g.W.Write.contents c.write_struck.new.output.inner in
      let so_far = at.written bytes old es all last in
      whole m bytes begun.filter.now old out here end so_far.0 before.office c.args.replay.now.office it.behind wrote c.write_struck.result over.read.office so_far.1 so_far.2 over.ends
      (subst (λ (a : Asked). WritesFirst out wrote (struck_lines a it.behind (end.taken - it.behind)) c.write_struck.result) at.asked
      (subst (λ n. WritesFirst out wrote (struck_lines it.filter.now it.behind (n - it.behind)) c.write_struck.result) c.taken.ensures c.write_struck.ensures));
}
