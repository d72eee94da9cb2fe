use Rattle.std.proofs.Common.{Some, ap}
use Rattle.journal.specs.Told.{held_at, place, placed_meant}
use Rattle.journal_office.proofs.Refusals.{held_first, none_read}
use Rattle.journal_office.proofs.replay.first.Goals as goal

pub returns-in-Some-clause-first : goal.returns-in-Some-clause-first
returns-in-Some-clause-first g c = (
  held_first (place g.R.Read.remaining c.args.events.now) (place g.R.Read.remaining c.next.new.events) c.in-Err.refused.line c.in-Err.refused.why (Some (placed_meant c.in-Some.placed))
      (c.in-Err.ensures.next c.requires) c.in-Some.ensures.held,
  ap held_at c.in-Some.ensures.place,
)

pub returns-in-None-clause-first : goal.returns-in-None-clause-first
returns-in-None-clause-first g c =
    none_read (place g.R.Read.remaining c.args.events.now) (place g.R.Read.remaining c.next.new.events) c.in-Err.refused.line c.in-Err.refused.why
    (c.in-Err.ensures.next c.requires) c.in-None.ensures.held
