use Rattle.journal_office.proofs.Leaving.{journal_tells, left_tells}
use Rattle.journal_office.proofs.laws.what_a_crash_left_tells_the_history.Goals as goal

pub returns-clause-journal : goal.returns-clause-journal
returns-clause-journal c = journal_tells

pub returns-clause-begun : goal.returns-clause-begun
returns-clause-begun c = left_tells
