use Rattle.std.proofs.Common.{inl, ◌++◌, ◌∷◌, [], sym, subst}
use Rattle.review_office.specs.Meant.{meaning_over}
use Rattle.journal.specs.Told.{place, placed_meant}
use Rattle.journal_reports.specs.History.{HasWritten}
use Rattle.journal_reports.specs.Passing.{Asked}
use Rattle.journal_reports.specs.Writing.{IsStopped}
use Rattle.journal_reports.proofs.Writing.{last_is, still_written, written_on}
use Rattle.journal_reports.proofs.history.WriterVisitor.see.Goals as goal

pub returns-in-Ok-clause-seen : goal.returns-in-Ok-clause-seen
returns-in-Ok-clause-seen g c = λ begun from before at taken. record {
  same_reference = at.same_reference;
  asked = at.asked;
  written = λ bytes old es all last.
      let m = meaning_over g.S.Store in
      let it = c.args.self.now in
      let here = place g.R.Read.remaining before.events in
      let behind = place g.R.Read.remaining c.args.replay.now.events in
      let out = g.W.Write.contents it.output.now.inner in
      let end = g.W.Write.contents c.write_next.new.output.inner in
      let office = c.args.replay.now.office in
      let left = c.write_next.new.replay.office in
      let so_far = at.written bytes old es all last in
      let placed = placed_meant c.args.placed in
      let more = so_far.0 ++ placed ∷ [] in
      let was = still_written m bytes begun.filter.now old out here so_far.0 it.behind before.office office taken.read.office so_far.1 in
      let wrote = c.in-Ok.ensures.written bytes old here so_far.0
      (subst (λ (a : Asked). HasWritten bytes a old out m office here so_far.0 it.behind office) (sym at.asked) was) so_far.2 (inl (behind, taken.told)) in (
        more,
        subst (λ (a : Asked). HasWritten bytes a old end m left (place g.R.Read.remaining c.write_next.new.replay.events) more placed.0 left) at.asked
            (subst (λ e. HasWritten bytes it.filter.now old end m left (place g.R.Read.remaining e) more placed.0 left) (sym c.in-Ok.ensures.events)
            (written_on m bytes it.filter.now old end here behind so_far.0 placed left so_far.1.replayed.told taken.told wrote)),
        last_is so_far.0 placed,
      );
}

pub returns-in-Err-clause-seen : goal.returns-in-Err-clause-seen
returns-in-Err-clause-seen g c = λ begun from before at taken. record {
  same_reference = at.same_reference;
  written = λ bytes old es all last.
      let m = meaning_over g.S.Store in
      let it = c.args.self.now in
      let here = place g.R.Read.remaining before.events in
      let behind = place g.R.Read.remaining c.args.replay.now.events in
      let out = g.W.Write.contents it.output.now.inner in
      let end = g.W.Write.contents c.write_next.new.output.inner in
      let office = c.args.replay.now.office in
      let left = c.write_next.new.replay.office in
      let so_far = at.written bytes old es all last in
      let was = still_written m bytes begun.filter.now old out here so_far.0 it.behind before.office office taken.read.office so_far.1 in
      subst (λ (a : Asked). IsStopped bytes m a old end left c.in-Err.why) at.asked
      (c.in-Err.ensures.written bytes old here so_far.0
      (subst (λ (a : Asked). HasWritten bytes a old out m office here so_far.0 it.behind office) (sym at.asked) was) so_far.2 (inl (behind, taken.told)));
}
