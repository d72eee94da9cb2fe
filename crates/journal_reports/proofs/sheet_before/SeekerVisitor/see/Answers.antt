use Rattle.std.proofs.Common.{◌≡◌, ◌∙◌, ◌++◌, ◌∷◌, [], ℕ, false, sym, subst}
use Rattle.std.proofs.lemmas.List.Elements.{All-push}
use Rattle.office_policy.specs.History.{Event}
use Rattle.review_office.specs.Meant.{meaning_over}
use Rattle.journal.specs.Told.{place, placed_meant}
use Rattle.journal_office.specs.Rebuilt.{HasReplayed}
use Rattle.journal_office.proofs.Refusals.{kept_out}
use Rattle.journal_office.proofs.Replays.{more}
use Rattle.journal_reports.specs.declared.sheet_before.Seeker.{Seeker}
use Rattle.journal_reports.specs.Evidence.{is_wanted}
use Rattle.journal_reports.specs.Steps.{Searches}
use Rattle.journal_reports.proofs.sheet_before.SeekerVisitor.see.Goals as goal

pub returns-then-is_wanted-clause-seen : goal.returns-then-is_wanted-clause-seen
returns-then-is_wanted-clause-seen g c = λ begun from before at taken bytes es all none.
    let m = meaning_over g.S.Store in
    let here = place g.R.Read.remaining before.events in
    let so_far = at.none bytes es all none in
    subst (λ (s : Seeker). Searches bytes s.name.now s.number s.line m c.give.new.replay.office c.give.result) at.same
    (c.give.ensures bytes here so_far.0
    (subst (λ office. HasReplayed bytes m here so_far.0 office) (sym taken.read.office) so_far.1) taken.told
    (sym c.is_wanted.ensures ∙ c.if-is_wanted.true))

pub returns-in-Ok-clause-seen : goal.returns-in-Ok-clause-seen
returns-in-Ok-clause-seen g c = λ begun from before at taken. record {
  same = at.same;
  none = λ bytes es all none.
      let m = meaning_over g.S.Store in
      let here = place g.R.Read.remaining before.events in
      let behind = place g.R.Read.remaining c.args.replay.now.events in
      let so_far = at.none bytes es all none in
      let placed = placed_meant c.args.placed in
      let was = subst (λ office. HasReplayed bytes m here so_far.0 office) (sym taken.read.office) so_far.1 in
      let other = subst (λ (s : Seeker). is_wanted s.name.now s.number s.line placed ≡ false) at.same (sym c.is_wanted.ensures ∙ c.if-is_wanted.false) in (
        so_far.0 ++ placed ∷ [],
        subst (λ e. HasReplayed bytes m (place g.R.Read.remaining e) (so_far.0 ++ placed ∷ []) c.happen.new.self.office) (sym c.in-Ok.ensures.events)
            (more m bytes here behind so_far.0 placed.0 placed.1 c.args.replay.now.office c.happen.new.self.office was taken.told c.in-Ok.ensures.happened),
        All-push (λ (q : ℕ × Event). is_wanted begun.name.now begun.number begun.line q ≡ false) so_far.0 placed so_far.2 other,
      );
}

pub returns-in-Err-clause-seen : goal.returns-in-Err-clause-seen
returns-in-Err-clause-seen g c = λ begun from before at taken bytes es all none.
    let m = meaning_over g.S.Store in
    let here = place g.R.Read.remaining before.events in
    let so_far = at.none bytes es all none in
    kept_out m bytes here (place g.R.Read.remaining c.args.replay.now.events) so_far.0 (placed_meant c.args.placed) c.args.replay.now.office c.happen.new.self.office
    c.in-Err.refused.line c.in-Err.refused.why
    (subst (λ office. HasReplayed bytes m here so_far.0 office) (sym taken.read.office) so_far.1) taken.told c.in-Err.ensures.happened
