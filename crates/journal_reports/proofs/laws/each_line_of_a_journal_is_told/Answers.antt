use Rattle.journal_reports.proofs.WholeFacts.{whole_history}
use Rattle.journal_reports.proofs.laws.each_line_of_a_journal_is_told.Goals as goal

pub returns : goal.returns
returns c = whole_history
