use Rattle.std.proofs.Common.{◌∙◌, sym, subst}
use Rattle.sqlite.specs.Held.{state}
use Rattle.sqlite.specs.State.{HasCleanDisk}
use Rattle.review_office.specs.Meant.{meaning_over}
use Rattle.journal.specs.Told.{place}
use Rattle.journal.proofs.SeenFacts.{seen_to_end}
use Rattle.journal_office.specs.Rebuilt.{HasReplayed}
use Rattle.journal_office.proofs.Replays.{ended}
use Rattle.journal_office.proofs.office.AgainVisitor.end.Goals as goal

pub returns : goal.returns
returns g c = λ begun from before at over. record {
  replayed = λ bytes first founded one.
      let m = meaning_over g.S.Store in
      let here = place g.R.Read.remaining before.events in
      let so_far = at.replayed bytes first founded one in
      ended m bytes here (place g.R.Read.remaining c.args._replay.now.events) so_far.0 c.args._replay.now.count c.args._replay.now.office
      (subst (λ office. HasReplayed bytes m here so_far.0 office) (sym over.read.office) so_far.1) over.ends (over.counted ∙ sym so_far.2);
  seen = λ bytes seen.
      let was = at.seen bytes seen in (
        over.read.seen bytes was,
        seen_to_end bytes (place g.R.Read.remaining before.events) (place g.R.Read.remaining c.args._replay.now.events) before.events.at was over.ends,
      );
  line = over.read.line ∙ at.line;
  clean = λ clean. at.clean (subst (λ office. HasCleanDisk (state g.S.Store office)) over.read.office clean);
}
