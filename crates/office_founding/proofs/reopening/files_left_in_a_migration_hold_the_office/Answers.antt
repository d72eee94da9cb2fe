use Rattle.office_founding.proofs.Reopened.{migrated_holds}
use Rattle.office_founding.proofs.reopening.files_left_in_a_migration_hold_the_office.Goals as goal

pub returns : goal.returns
returns g c numbered t = migrated_holds c.args.crashed.now numbered t
