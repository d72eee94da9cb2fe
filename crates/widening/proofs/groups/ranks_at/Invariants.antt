use Rattle.std.proofs.Common.{take}
use Rattle.widening.specs.Groups.{entries_at}
use Rattle.widening.specs.Ranks.{AreRanksOf, rules_with}
use Rattle.widening.proofs.groups.ranks_at.Given as goal

abbrev pub invariant-loop-place : goal.invariant-loop-place
invariant-loop-place l = AreRanksOf l.ranks (rules_with l.fn.default (entries_at l.entries (take l.place-index l.places)))
