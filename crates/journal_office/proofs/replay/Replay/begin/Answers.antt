use Rattle.std.proofs.Common.{subst, sym}
use Rattle.review_office.specs.Meant.{meaning_over}
use Rattle.journal.specs.Told.{place, placed_meant, start}
use Rattle.journal_faults.specs.declared.refused.Refused.{Refused}
use Rattle.journal_office.specs.Steps.{IsFirstRead, IsUnbegun}
use Rattle.journal_office.proofs.Refusals.{begun_read, unbegun, unbegun_none}
use Rattle.journal_office.proofs.replay.Replay.begin.Goals as goal

pub returns-in-Err-clause-unbegun : goal.returns-in-Err-clause-unbegun
returns-in-Err-clause-unbegun g c =
    unbegun_none g.S.Store (g.R.Read.remaining c.args.journal) c.args.conn (place g.R.Read.remaining c.new-events.result) c.in-Err.refused c.new-events.ensures.place c.in-Err.ensures.first

pub returns-in-Ok-found_by-clause-begun : goal.returns-in-Ok-found_by-clause-begun
returns-in-Ok-found_by-clause-begun g c =
    let bytes = g.R.Read.remaining c.args.journal in
    let kept = c.in-Ok-found_by.ensures.kept in
    let here = place g.R.Read.remaining c.first.new.events in
    record {
      told = subst (λ e. IsFirstRead (start bytes) (place g.R.Read.remaining e) (placed_meant c.in-Ok-found_by.placed) c.in-Ok.found.1) (sym kept.0)
          (subst (λ p. IsFirstRead (start bytes) here (placed_meant p) c.in-Ok.found.1) (sym kept.1)
          (begun_read g.S.Store bytes c.args.conn (place g.R.Read.remaining c.new-events.result) here (placed_meant c.in-Ok.found.0) c.in-Ok.found.1 c.new-events.ensures.place c.in-Ok.ensures.first));
      founding = c.in-Ok-found_by.ensures.founding;
      stands = c.in-Ok-found_by.ensures.stands;
    }

pub returns-in-Err-found_by-clause-unbegun : goal.returns-in-Err-found_by-clause-unbegun
returns-in-Err-found_by-clause-unbegun g c =
    let bytes = g.R.Read.remaining c.args.journal in
    let none = c.in-Err-found_by.ensures.refused in
    subst (λ (r : Refused). IsUnbegun bytes g.S.Store c.args.conn c.in-Err-found_by.conn r.line r.why) (sym c.unwrap_or.ensures)
    (unbegun g.S.Store bytes c.args.conn (place g.R.Read.remaining c.new-events.result) (place g.R.Read.remaining c.first.new.events)
    (placed_meant c.in-Ok.found.0) c.in-Ok.found.1 c.in-Err-found_by.conn c.in-Err-found_by.refused c.new-events.ensures.place c.in-Ok.ensures.first none.0 none.1)
