use Rattle.std.proofs.Common.{None, codes, refl}
use Rattle.clap.specs.Words.{found_of}
use Rattle.command_line.proofs.Getters.{lacks, text_is}
use Rattle.command_line.proofs.migrate.migrate_of.Goals as goal

pub returns-clause-command : goal.returns-clause-command
returns-clause-command c = (refl, text_is (found_of c.args.given.now) (codes "database") _ c.in_ok-database.ensures, c.is_set-without_journal.ensures)

pub returns-in_err-database-clause-lacking : goal.returns-in_err-database-clause-lacking
returns-in_err-database-clause-lacking c = lacks _ _ (text_is (found_of c.args.given.now) (codes "database") None c.in_err-database.ensures)
