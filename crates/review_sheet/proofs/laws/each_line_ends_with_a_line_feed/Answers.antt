use Rattle.std.proofs.Common.{refl}
use Rattle.review_sheet.specs.Sheet.{sheet_text}
use Rattle.review_sheet.proofs.laws.each_line_ends_with_a_line_feed.Goals as goal

pub returns : goal.returns
unfolding sheet_text
returns c = λ s. refl
