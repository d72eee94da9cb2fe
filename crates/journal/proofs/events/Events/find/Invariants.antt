use Rattle.std.proofs.Common.{◌≡◌, ◌-◌, ℕ, List, [], Option}
use Rattle.journal.specs.SealsAt.{IsSeen}
use Rattle.journal.specs.Told.{GoesOn, place}
use Rattle.journal.proofs.events.Events.find.Given as goal

abbrev pub invariant-loop-self : goal.invariant-loop-self
invariant-loop-self g l = record {
  told : GoesOn (place g.R.Read.remaining l.fn.self) (place g.R.Read.remaining l.self) [];
  fault : l.self.fault ≡ l.fn.self.fault;
  seen : (bytes : Option (List ℕ)) → IsSeen bytes (place g.R.Read.remaining l.fn.self) l.fn.self.at → IsSeen bytes (place g.R.Read.remaining l.self) l.self.at;
  line : l.self.at.line ≡ l.fn.self.at.line;
}

abbrev pub decreases-loop-self : goal.decreases-loop-self
decreases-loop-self g l = 18446744073709551615 - l.self.taken
