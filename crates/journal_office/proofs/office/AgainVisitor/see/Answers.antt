use Rattle.std.proofs.Common.{arith, ◌∙◌, ◌+◌, ◌++◌, ◌∷◌, [], ℕ, ap, inr, sym, subst, length-append}
use Rattle.sqlite.specs.Held.{state}
use Rattle.sqlite.specs.State.{HasCleanDisk}
use Rattle.review_office.specs.Meant.{meaning_over}
use Rattle.journal.specs.SealsAt.{IsSeen}
use Rattle.journal.specs.Told.{place, placed_meant}
use Rattle.journal_office.specs.Rebuilt.{HasReplayed}
use Rattle.journal_office.proofs.Refusals.{stops_out}
use Rattle.journal_office.proofs.Replays.{more}
use Rattle.journal_office.proofs.office.AgainVisitor.see.Goals as goal

pub returns-in-Ok-clause-seen : goal.returns-in-Ok-clause-seen
returns-in-Ok-clause-seen g c = λ begun from before at taken. record {
  replayed = λ bytes first founded one.
      let m = meaning_over g.S.Store in
      let here = place g.R.Read.remaining before.events in
      let behind = place g.R.Read.remaining c.args.replay.now.events in
      let so_far = at.replayed bytes first founded one in
      let placed = placed_meant c.args.placed in
      let was = subst (λ office. HasReplayed bytes m here so_far.0 office) (sym taken.read.office) so_far.1 in (
        so_far.0 ++ placed ∷ [],
        subst (λ e. HasReplayed bytes m (place g.R.Read.remaining e) (so_far.0 ++ placed ∷ []) c.happen.new.self.office) (sym c.in-Ok.ensures.events)
            (more m bytes here behind so_far.0 placed.0 placed.1 c.args.replay.now.office c.happen.new.self.office was taken.told c.in-Ok.ensures.happened),
        length-append so_far.0 (placed ∷ []) ∙ ap (λ (n : ℕ). n + 1) so_far.2 ∙ sym taken.counted ∙ sym c.in-Ok.ensures.count,
        omega (arith, length-append so_far.0 (placed ∷ [])),
      );
  seen = λ bytes seen.
      subst (λ e. IsSeen bytes (place g.R.Read.remaining e) e.at) (sym c.in-Ok.ensures.events) (taken.read.seen bytes (at.seen bytes seen));
  line = ap (λ e. e.at.line) c.in-Ok.ensures.events ∙ taken.read.line ∙ at.line;
  clean = λ clean. at.clean (subst (λ office. HasCleanDisk (state g.S.Store office)) taken.read.office (c.in-Ok.ensures.survives.clean clean));
}

pub returns-in-Err-clause-seen : goal.returns-in-Err-clause-seen
returns-in-Err-clause-seen g c = λ begun from before at taken. record {
  replayed = λ bytes first founded one.
      let m = meaning_over g.S.Store in
      let here = place g.R.Read.remaining before.events in
      let so_far = at.replayed bytes first founded one in
      inr (stops_out m bytes here (place g.R.Read.remaining c.args.replay.now.events) (place g.R.Read.remaining c.happen.new.self.events) so_far.0 (placed_meant c.args.placed)
      c.args.replay.now.office c.happen.new.self.office c.in-Err.refused.line c.in-Err.refused.why
      (subst (λ office. HasReplayed bytes m here so_far.0 office) (sym taken.read.office) so_far.1) taken.told c.in-Err.ensures.happened);
  seen = λ bytes seen. tt;
  line = ap (λ e. e.at.line) c.in-Err.ensures.events ∙ taken.read.line ∙ at.line;
  clean = λ clean. at.clean (subst (λ office. HasCleanDisk (state g.S.Store office)) taken.read.office (c.in-Err.ensures.survives.clean clean));
}
