use Rattle.journal.proofs.WriterFacts.{writers_shown}
use Rattle.journal.proofs.laws.tables_show_their_writers.Goals as goal

pub returns : goal.returns
returns c = writers_shown
