use Rattle.std.proofs.Common.{◌≡◌, ◌++◌, take}
use Rattle.std.specs.Prelude.{string_bytes}
use Rattle.review_sheet.specs.Layout.{spaced}
use Rattle.review_sheet.proofs.layout.push_others.Given as goal

abbrev pub invariant-loop-item : goal.invariant-loop-item
invariant-loop-item g l = string_bytes l.text ≡ string_bytes l.initial.text ++ spaced (take l.item-index l.items)
