use Rattle.std.proofs.Common.{◌≡◌, ◌-◌, ◌≤◌}
use Rattle.http_requests.proofs.FillFacts.{Filling}
use Rattle.http_requests.proofs.body.fill.Given as goal

abbrev pub invariant-loop-filled : goal.invariant-loop-filled
invariant-loop-filled g l =
    record {
      filling : Filling (g.R.Read.remaining l.fn.reader.inner) (g.R.Read.remaining l.reader.inner) l.kept l.filled l.fn.body.items l.body.items;
      calls : l.reader.calls ≤ l.most_calls;
      faults : l.reader.faults ≡ l.fn.reader.faults;
    }

abbrev pub decreases-loop-filled : goal.decreases-loop-filled
decreases-loop-filled g l = l.most_calls - l.reader.calls
