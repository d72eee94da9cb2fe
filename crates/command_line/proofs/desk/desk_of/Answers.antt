use Rattle.std.proofs.Common.{None, codes, refl}
use Rattle.clap.specs.Words.{found_of, rows_of}
use Rattle.command_line.proofs.Getters.{lacks, text_is}
use Rattle.command_line.proofs.RefusalFacts.{lacks_value, no_desk}
use Rattle.command_line.proofs.desk.desk_of.Goals as goal

pub returns-clause-command : goal.returns-clause-command
returns-clause-command c =
    let f = found_of c.args.given.now in (
      refl,
      text_is f (codes "database") _ c.in_ok-database.ensures,
      c.in_ok-journal.ensures.said,
    )

pub returns-in_err-database-clause-lacking : goal.returns-in_err-database-clause-lacking
returns-in_err-database-clause-lacking c =
    let f = found_of c.args.given.now in
    lacks _ _ (no_desk (rows_of f) (λ database journal there said. lacks_value _ _ (text_is f (codes "database") None c.in_err-database.ensures) there))

pub returns-in_err-journal-clause-lacking : goal.returns-in_err-journal-clause-lacking
returns-in_err-journal-clause-lacking c =
    lacks _ _ (no_desk (rows_of (found_of c.args.given.now)) (λ database journal there said. c.in_err-journal.ensures.both journal said))
