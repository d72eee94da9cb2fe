use Rattle.std.proofs.Common.{None, codes, refl}
use Rattle.clap.specs.Words.{found_of, rows_of}
use Rattle.command_line.proofs.Getters.{lacks, text_is}
use Rattle.command_line.proofs.RefusalFacts.{lacks_value, no_verify}
use Rattle.command_line.proofs.verify.verify_of.Goals as goal

pub returns-clause-command : goal.returns-clause-command
returns-clause-command c =
    let f = found_of c.args.given.now in (
      refl,
      record {
        database = text_is f (codes "database") _ c.in_ok-database.ensures;
        journal = text_is f (codes "journal") _ c.in_ok-journal.ensures;
        seal = c.in_ok-seal.ensures.seal;
        mark = c.is_set-mark.ensures;
      },
    )

pub returns-in_err-database-clause-lacking : goal.returns-in_err-database-clause-lacking
returns-in_err-database-clause-lacking c =
    let f = found_of c.args.given.now in
    lacks _ _ (no_verify (rows_of f) (λ words h. lacks_value _ _ (text_is f (codes "database") None c.in_err-database.ensures) h.database))

pub returns-in_err-journal-clause-lacking : goal.returns-in_err-journal-clause-lacking
returns-in_err-journal-clause-lacking c =
    let f = found_of c.args.given.now in
    lacks _ _ (no_verify (rows_of f) (λ words h. lacks_value _ _ (text_is f (codes "journal") None c.in_err-journal.ensures) h.journal))

pub returns-in_err-seal-clause-lacking : goal.returns-in_err-seal-clause-lacking
returns-in_err-seal-clause-lacking c =
    let f = found_of c.args.given.now in
    lacks _ _ (no_verify (rows_of f) (λ words h. c.in_err-seal.ensures.lacking words.seal h.seal))
