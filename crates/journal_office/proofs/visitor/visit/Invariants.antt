use Rattle.std.proofs.Common.{◌≡◌, ◌-◌, None}
use Rattle.journal_office.proofs.visitor.visit.Given as goal

abbrev pub invariant-events : goal.invariant-events
invariant-events g l = record {
  fault : l.replay.events.fault ≡ None;
  at : g.V.Visitor.is_at l.fn.visitor l.fn.replay l.visitor l.replay;
}

abbrev pub decreases-events : goal.decreases-events
decreases-events g l = 18446744073709551615 - l.replay.count
