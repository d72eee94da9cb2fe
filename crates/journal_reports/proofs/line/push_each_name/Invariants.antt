use Rattle.std.proofs.Common.{◌≡◌, ◌++◌}
use Rattle.std.specs.Prelude.{string_bytes}
use Rattle.review_sheet.specs.Layout.{spaced}
use Rattle.journal_reports.proofs.line.push_each_name.Given as goal

abbrev pub invariant-loop-name : goal.invariant-loop-name
invariant-loop-name l = string_bytes l.text ++ spaced l.name-iterator ≡ string_bytes l.initial.text ++ spaced l.fn.names
