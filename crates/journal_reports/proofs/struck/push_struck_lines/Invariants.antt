use Rattle.std.proofs.Common.{◌≡◌, ◌++◌, ◌-◌}
use Rattle.std.specs.Prelude.{string_bytes}
use Rattle.journal_reports.specs.Struck.{pair_lines}
use Rattle.journal_reports.proofs.struck.push_struck_lines.Given as goal

abbrev pub invariant-pairs : goal.invariant-pairs
invariant-pairs l =
    string_bytes l.text ++ pair_lines l.filter l.at (l.last - l.at) ≡ string_bytes l.initial.text ++ pair_lines l.filter l.fn.behind (l.last - l.fn.behind)

abbrev pub decreases-pairs : goal.decreases-pairs
decreases-pairs l = l.last - l.at
