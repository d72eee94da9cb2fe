use Rattle.std.proofs.Common.{◌∙◌, arith}
use Rattle.streams.proofs.HeldFacts.{unheld}
use Rattle.streams.proofs.HandedFacts.{keeps_filled}
use Rattle.streams.proofs.lines.Lines.find.Goals as goal

pub loop-self-preserved : goal.loop-self-preserved
loop-self-preserved g c = record {
  handed = keeps_filled _ _ _ _ _ _ c.loop-self.invariant.handed c.in-Bytes.ensures.bytes;
  held = λ has. absurd (unheld c.args.self.now c.loop-self.self (λ h. (c.loop-self.invariant.held h).1) c.loop-self-test.ensures has);
  calls = c.in-Bytes.ensures.calls.1;
  faults = c.in-Bytes.ensures.faults ∙ c.loop-self.invariant.faults;
  work = omega (arith, c.in-Bytes.ensures.calls, c.in-Bytes.ensures.stopped, c.loop-self.invariant.work);
}

pub returns-then-is_empty-clause-handed : goal.returns-then-is_empty-clause-handed
returns-then-is_empty-clause-handed g c = keeps_filled _ _ _ _ _ _ c.loop-self.invariant.handed c.in-End.ensures.bytes

pub returns-else-is_empty-clause-handed : goal.returns-else-is_empty-clause-handed
returns-else-is_empty-clause-handed g c = keeps_filled _ _ _ _ _ _ c.loop-self.invariant.handed c.in-End.ensures.bytes

pub returns-in-Failed-clause-handed : goal.returns-in-Failed-clause-handed
returns-in-Failed-clause-handed g c = keeps_filled _ _ _ _ _ _ c.loop-self.invariant.handed c.in-Failed.ensures.bytes

pub returns-in-TooManyReads-clause-handed : goal.returns-in-TooManyReads-clause-handed
returns-in-TooManyReads-clause-handed g c = keeps_filled _ _ _ _ _ _ c.loop-self.invariant.handed c.in-TooManyReads.ensures.bytes

pub returns-then-is_empty-clause-held : goal.returns-then-is_empty-clause-held
returns-then-is_empty-clause-held g c = λ has. absurd (unheld c.args.self.now c.loop-self.self (λ h. (c.loop-self.invariant.held h).1) c.loop-self-test.ensures has)

pub returns-else-is_empty-clause-held : goal.returns-else-is_empty-clause-held
returns-else-is_empty-clause-held g c = λ has. absurd (unheld c.args.self.now c.loop-self.self (λ h. (c.loop-self.invariant.held h).1) c.loop-self-test.ensures has)

pub returns-in-Failed-clause-held : goal.returns-in-Failed-clause-held
returns-in-Failed-clause-held g c = λ has. absurd (unheld c.args.self.now c.loop-self.self (λ h. (c.loop-self.invariant.held h).1) c.loop-self-test.ensures has)

pub returns-in-TooManyReads-clause-held : goal.returns-in-TooManyReads-clause-held
returns-in-TooManyReads-clause-held g c = λ has. absurd (unheld c.args.self.now c.loop-self.self (λ h. (c.loop-self.invariant.held h).1) c.loop-self-test.ensures has)
