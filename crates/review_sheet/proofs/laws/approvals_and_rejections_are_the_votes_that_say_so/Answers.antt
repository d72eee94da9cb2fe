use Rattle.review_sheet.proofs.LineFacts.{votes_said}
use Rattle.review_sheet.proofs.laws.approvals_and_rejections_are_the_votes_that_say_so.Goals as goal

pub returns : goal.returns
returns c = votes_said
