use Rattle.std.proofs.Common.{take, filter}
use Rattle.seccomp_doc.specs.Meaning.{has_name}
use Rattle.widening.specs.Ranks.{AreRanksOf, rules_with}
use Rattle.widening.proofs.calls.ranks_of.Given as goal

abbrev pub invariant-loop-entry : goal.invariant-loop-entry
invariant-loop-entry l = AreRanksOf l.ranks (rules_with l.filter.default (filter (has_name l.name) (take l.entry-index l.entry-items)))
