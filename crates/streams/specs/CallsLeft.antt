-- What is left of the counts of a reader or a writer before they stay at the greatest u64.
use Rattle.std.specs.Prelude.{◌≤◌, ◌^◌}
use Rattle.streams.specs.declared.counted.Counted.{Counted}

-- a reader was called so seldom, and failed so seldom, that the next calls and faults are counted
abbrev pub HasCallsLeft : {T : Type 0} → Counted T → Type 0
HasCallsLeft reader = (reader.calls ≤ 2 ^ 62) × (reader.faults ≤ 2 ^ 62)

-- a writer failed so seldom that the next faults are counted
abbrev pub HasFaultsLeft : {T : Type 0} → Counted T → Type 0
HasFaultsLeft writer = writer.faults ≤ 2 ^ 62
