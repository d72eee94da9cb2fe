use Rattle.review_sheet.proofs.LineFacts.{findings_counted, votes_counted}
use Rattle.review_sheet.proofs.laws.numbers_of_lists_are_those_of_their_lines.Goals as goal

pub returns-clause-findings : goal.returns-clause-findings
returns-clause-findings c = findings_counted

pub returns-clause-votes : goal.returns-clause-votes
returns-clause-votes c = votes_counted
