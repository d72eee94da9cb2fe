use Rattle.review_sheet.proofs.LineFacts.{findings_part, need_part}
use Rattle.review_sheet.proofs.laws.findings_and_need_are_those_of_the_comparison_and_the_policy.Goals as goal

pub returns-clause-findings : goal.returns-clause-findings
returns-clause-findings c = findings_part

pub returns-clause-need : goal.returns-clause-need
returns-clause-need c = need_part
