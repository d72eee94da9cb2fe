use Rattle.journal.proofs.HistoryFacts.{before_place}
use Rattle.journal.proofs.ToldFacts.{begins_first}
use Rattle.journal.proofs.laws.the_lines_before_a_place_are_a_journal.Goals as goal

pub returns-clause-told : goal.returns-clause-told
returns-clause-told c = begins_first

pub returns-clause-history : goal.returns-clause-history
returns-clause-history c = before_place
