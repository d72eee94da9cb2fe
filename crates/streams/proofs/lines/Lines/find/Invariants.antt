use Rattle.std.proofs.Common.{◌≡◌, ◌-◌, ◌≤◌}
use Rattle.streams.specs.Found.{work}
use Rattle.streams.specs.Handed.{KeepsHanded}
use Rattle.streams.specs.Held.{HasLine}
use Rattle.streams.proofs.lines.Lines.find.Given as goal

abbrev pub invariant-loop-self : goal.invariant-loop-self
invariant-loop-self g l =
    record {
      handed : KeepsHanded l.fn.self l.self (g.R.Read.remaining l.fn.reader.inner) (g.R.Read.remaining l.reader.inner);
      held : HasLine l.fn.self.bytes → (l.reader ≡ l.fn.reader) × (l.self ≡ l.fn.self);
      calls : l.reader.calls ≤ l.most_calls;
      faults : l.reader.faults ≡ l.fn.reader.faults;
      work : work l.most_calls l.reader.calls l.self ≤ work l.most_calls l.fn.reader.calls l.fn.self;
    }

abbrev pub decreases-loop-self : goal.decreases-loop-self
decreases-loop-self g l = l.most_calls - l.reader.calls
