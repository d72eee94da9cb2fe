use Rattle.std.proofs.Common.{◌∙◌}
use Rattle.journal.proofs.ToldFacts.{goes_further, input_leaves, input_stops, leaves_further, left_further}
use Rattle.journal.proofs.events.Events.find.Goals as goal

pub returns-in-Stands-clause-told : goal.returns-in-Stands-clause-told
returns-in-Stands-clause-told g c = goes_further _ _ _ _ c.loop-self.invariant.told (rw c.in-Stands.is at c.in_ok-placed.ensures.told)

pub loop-self-preserved : goal.loop-self-preserved
loop-self-preserved g c =
    let passed = rw c.in-Passed.is at c.in_ok-placed.ensures.told in
    record {
      told = goes_further _ _ _ _ c.loop-self.invariant.told passed.0;
      fault = c.in_ok-placed.ensures.fault ∙ c.loop-self.invariant.fault;
      seen = λ bytes seen. c.in_ok-placed.ensures.seen bytes (c.loop-self.invariant.seen bytes seen);
      line = c.in_ok-placed.ensures.line ∙ c.loop-self.invariant.line;
    }

pub returns-clause-told : goal.returns-clause-told
returns-clause-told g c = c.loop-self.invariant.told.stops _ _ (input_stops _ _ _ _)

pub returns-in_err-placed-clause-leaves : goal.returns-in_err-placed-clause-leaves
returns-in_err-placed-clause-leaves g c =
    left_further _ _ _ _ _ c.from_residual.ensures.1 c.loop-self.invariant.told c.in_err-placed.ensures.leaves

pub returns-clause-leaves : goal.returns-clause-leaves
returns-clause-leaves g c = leaves_further _ _ _ _ c.loop-self.invariant.told (input_leaves _)
