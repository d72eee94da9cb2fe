use Rattle.std.proofs.Common.{◌≡◌, ◌++◌, map}
use Rattle.std.specs.Prelude.{filter}
use Rattle.std.specs.List.{range_with_len}
use Rattle.widening.specs.Findings.{is_gained}
use Rattle.widening.specs.declared.finding.Finding.TheVariants.{Cap}
use Rattle.widening.proofs.caps.find_gained.Given as goal

abbrev pub invariant-loop-number : goal.invariant-loop-number
invariant-loop-number l =
    l.found.items ≡ l.initial.found.items ++ map (Cap l.set) (filter (is_gained l.base l.new) (range_with_len 0 l.number))
