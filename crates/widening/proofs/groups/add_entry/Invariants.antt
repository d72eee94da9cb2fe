use Rattle.std.proofs.Common.{take}
use Rattle.widening.specs.Groups.{AddsUnder}
use Rattle.widening.proofs.groups.add_entry.Given as goal

abbrev pub invariant-loop-name : goal.invariant-loop-name
invariant-loop-name l = AddsUnder l.names l.initial.groups l.groups (take l.name-index l.name-items) l.place
