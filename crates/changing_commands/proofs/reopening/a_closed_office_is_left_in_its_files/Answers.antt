use Rattle.changing_commands.proofs.LeftFacts.{founding_left, desk_left, exchanges_left}
use Rattle.changing_commands.proofs.LeftFacts.{migration_left}
use Rattle.changing_commands.proofs.reopening.a_closed_office_is_left_in_its_files.Goals as goal

pub returns-clause-founding : goal.returns-clause-founding
returns-clause-founding g c = founding_left g.D.Disk

pub returns-clause-desk : goal.returns-clause-desk
returns-clause-desk g c = desk_left g.D.Disk

pub returns-clause-exchanges : goal.returns-clause-exchanges
returns-clause-exchanges g c = exchanges_left g.D.Disk

pub returns-clause-migration : goal.returns-clause-migration
returns-clause-migration g c = migration_left g.D.Disk
