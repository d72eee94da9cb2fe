use Rattle.journal.proofs.HistoryFacts.{read_whole}
use Rattle.journal.proofs.laws.what_is_read_to_the_end_is_the_journal.Goals as goal

pub returns : goal.returns
returns c = read_whole
