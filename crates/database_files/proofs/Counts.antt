-- A call that fails since a name leads elsewhere is counted beside those that fail below.
use Rattle.std.proofs.Common.{ℕ, ◌+◌, ◌-◌, ◌^◌, ◌≤◌, min, arith}
use Rattle.sqlite_disk.specs.Disk.{MoreFaults}

pub counted : (faults old new : ℕ) → min (old + 1) (2 ^ 64 - 1) ≤ new → old ≤ new → MoreFaults (faults + old) (faults + new) × (faults + old ≤ faults + new)
counted faults old new more less = (omega (arith, more), omega (arith, less))
