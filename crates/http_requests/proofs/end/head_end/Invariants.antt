use Rattle.std.proofs.Common.{◌≡◌, ◌≤◌, ℕ, false}
use Rattle.http_requests.specs.Ends.{ends_head}
use Rattle.http_requests.proofs.end.head_end.Given as goal

abbrev pub invariant-loop-end : goal.invariant-loop-end
invariant-loop-end l = (k : ℕ) → k ≤ l.end → ends_head l.bytes k ≡ false
