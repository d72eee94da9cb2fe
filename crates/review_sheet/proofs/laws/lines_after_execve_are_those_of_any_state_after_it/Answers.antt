use Rattle.review_sheet.proofs.AfterFacts.{same_plain_lines, same_root_lines}
use Rattle.review_sheet.proofs.laws.lines_after_execve_are_those_of_any_state_after_it.Goals as goal

pub returns-clause-plain : goal.returns-clause-plain
returns-clause-plain c = same_plain_lines

pub returns-clause-root : goal.returns-clause-root
returns-clause-root c = same_root_lines
