use Rattle.journal.proofs.HistoryFacts.{journal_tells, journal_told, lines_tell}
use Rattle.journal.proofs.laws.a_journal_tells_its_history.Goals as goal

pub returns-clause-of_lines : goal.returns-clause-of_lines
returns-clause-of_lines c = λ lines es tells. lines_tell lines es tells

pub returns-clause-told : goal.returns-clause-told
returns-clause-told c = λ text es tells. journal_told text es tells

pub returns-clause-tells : goal.returns-clause-tells
returns-clause-tells c = λ text h is. journal_tells text h is
