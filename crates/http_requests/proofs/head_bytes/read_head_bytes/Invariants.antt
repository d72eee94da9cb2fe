use Rattle.std.proofs.Common.{◌≡◌, ◌-◌, ◌≤◌, ℕ, false, vec_len}
use Rattle.std.specs.Io.KnownBytes.{Consumes}
use Rattle.http_requests.specs.Ends.{ends_head}
use Rattle.http_requests.proofs.head_bytes.read_head_bytes.Given as goal

abbrev pub invariant-loop-bytes : goal.invariant-loop-bytes
invariant-loop-bytes g l =
    record {
      bytes : Consumes (g.R.Read.remaining l.fn.reader.inner) (g.R.Read.remaining l.reader.inner) l.bytes.items;
      searched : (k : ℕ) → k ≤ l.searched → ends_head l.bytes.items k ≡ false;
      calls : l.reader.calls ≤ l.most_calls;
      faults : l.reader.faults ≡ l.fn.reader.faults;
    }

abbrev pub decreases-loop-bytes : goal.decreases-loop-bytes
decreases-loop-bytes g l = 8192 - vec_len l.bytes
