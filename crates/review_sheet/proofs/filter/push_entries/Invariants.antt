use Rattle.std.proofs.Common.{◌≡◌, ◌+◌, ◌++◌, drop}
use Rattle.std.specs.Prelude.{string_bytes}
use Rattle.review_sheet.specs.Filters.{entries_lines}
use Rattle.review_sheet.specs.Layout.{joined}
use Rattle.review_sheet.proofs.filter.push_entries.Given as goal

abbrev pub invariant-loop-i : goal.invariant-loop-i
invariant-loop-i l =
    string_bytes l.text ++ joined (entries_lines (l.i + 1) (drop l.i l.entries)) ≡ string_bytes l.initial.text ++ joined (entries_lines 1 l.entries)
