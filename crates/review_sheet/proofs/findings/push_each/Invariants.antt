use Rattle.std.proofs.Common.{◌≡◌, ◌++◌, map, take}
use Rattle.std.specs.Prelude.{string_bytes}
use Rattle.review_sheet.specs.Layout.{joined}
use Rattle.review_sheet.specs.Review.{finding_line}
use Rattle.review_sheet.proofs.findings.push_each.Given as goal

abbrev pub invariant-loop-finding : goal.invariant-loop-finding
invariant-loop-finding l = string_bytes l.text ≡ string_bytes l.initial.text ++ joined (map finding_line (take l.finding-index l.found))
