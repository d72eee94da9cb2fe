use Rattle.std.proofs.Common.{◌≡◌, ◌-◌, ◌≤◌}
use Rattle.std.specs.Io.KnownBytes.{Keeps}
use Rattle.streams.proofs.some.read_some.Given as goal

abbrev pub invariant-loop-reader : goal.invariant-loop-reader
invariant-loop-reader g l =
    record {
      kept : Keeps (g.R.Read.remaining l.fn.reader.inner) (g.R.Read.remaining l.reader.inner);
      calls : l.fn.reader.calls ≤ l.reader.calls;
      few : l.reader.calls ≤ l.most_calls;
      faults : l.reader.faults ≡ l.fn.reader.faults;
    }

abbrev pub decreases-loop-reader : goal.decreases-loop-reader
decreases-loop-reader g l = l.most_calls - l.reader.calls
