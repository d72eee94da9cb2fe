use Rattle.journal.proofs.JournalFacts.{one_history}
use Rattle.journal.proofs.laws.a_journal_has_one_history.Goals as goal

pub returns : goal.returns
returns c = one_history
