use Rattle.changing_commands.proofs.KeptLeftFacts.{desk_left, exchanges_left, founding_left, marking_left}
use Rattle.changing_commands.proofs.reopening.a_kept_office_is_left_with_its_journal.Goals as goal

pub returns-clause-desk : goal.returns-clause-desk
returns-clause-desk g c = λ journals path. desk_left g.D.Disk g.J.File.Disk (g.J.Journals.opens journals path)

pub returns-clause-exchanges : goal.returns-clause-exchanges
returns-clause-exchanges g c = λ journals path. exchanges_left g.D.Disk g.J.File.Disk (g.J.Journals.opens journals path)

pub returns-clause-marking : goal.returns-clause-marking
returns-clause-marking g c = λ journals path. marking_left g.D.Disk g.J.File.Disk (g.J.Journals.opens journals path)

pub returns-clause-founding : goal.returns-clause-founding
returns-clause-founding g c = λ journals path. founding_left g.D.Disk g.J.File.Disk (g.J.Journals.creates journals path)
