use Rattle.std.proofs.Common.{take}
use Rattle.widening.specs.Groups.{IsGrouping}
use Rattle.widening.proofs.groups.add_entries.Given as goal

abbrev pub invariant-loop-place : goal.invariant-loop-place
invariant-loop-place l = IsGrouping (take l.place l.entries) l.names l.groups
