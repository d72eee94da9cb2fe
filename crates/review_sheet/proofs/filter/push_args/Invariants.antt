use Rattle.std.proofs.Common.{◌≡◌, ◌++◌, map, take}
use Rattle.std.specs.Prelude.{string_bytes}
use Rattle.review_sheet.specs.Filters.{arg_line}
use Rattle.review_sheet.specs.Layout.{joined}
use Rattle.review_sheet.proofs.filter.push_args.Given as goal

abbrev pub invariant-loop-arg : goal.invariant-loop-arg
invariant-loop-arg l = string_bytes l.text ≡ string_bytes l.initial.text ++ joined (map arg_line (take l.arg-index l.args))
