use Rattle.std.proofs.Common.{◌≡◌, ◌++◌, map, take}
use Rattle.std.specs.Prelude.{string_bytes}
use Rattle.review_sheet.specs.Layout.{joined}
use Rattle.review_sheet.specs.Review.{vote_line}
use Rattle.review_sheet.proofs.votes.push_each.Given as goal

abbrev pub invariant-loop-vote : goal.invariant-loop-vote
invariant-loop-vote l = string_bytes l.text ≡ string_bytes l.initial.text ++ joined (map vote_line (take l.vote-index l.votes))
