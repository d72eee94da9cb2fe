use Rattle.std.proofs.Common.{None, codes, refl}
use Rattle.clap.specs.Words.{found_of, rows_of}
use Rattle.command_line.proofs.Getters.{lacks, text_is}
use Rattle.command_line.proofs.RefusalFacts.{lacks_value, no_serve}
use Rattle.command_line.proofs.serve.serve_of.Goals as goal

pub returns-clause-command : goal.returns-clause-command
returns-clause-command c =
    let f = found_of c.args.given.now in (
      refl,
      record {
        database = text_is f (codes "database") _ c.in_ok-database.ensures;
        port = c.in_ok-port.ensures.number;
        requests = c.in_ok-requests.ensures.asked;
        journal = c.in_ok-journal.ensures.said;
      },
    )

pub returns-in_err-database-clause-lacking : goal.returns-in_err-database-clause-lacking
returns-in_err-database-clause-lacking c =
    let f = found_of c.args.given.now in
    lacks _ _ (no_serve (rows_of f) (λ words h. lacks_value _ _ (text_is f (codes "database") None c.in_err-database.ensures) h.database))

pub returns-in_err-port-clause-lacking : goal.returns-in_err-port-clause-lacking
returns-in_err-port-clause-lacking c =
    let f = found_of c.args.given.now in
    lacks _ _ (no_serve (rows_of f) (λ words h. c.in_err-port.ensures.lacking words.port h.port))

pub returns-in_err-requests-clause-lacking : goal.returns-in_err-requests-clause-lacking
returns-in_err-requests-clause-lacking c =
    let f = found_of c.args.given.now in
    lacks _ _ (no_serve (rows_of f) (λ words h. c.in_err-requests.ensures.lacking words.requests h.requests))

pub returns-in_err-journal-clause-lacking : goal.returns-in_err-journal-clause-lacking
returns-in_err-journal-clause-lacking c =
    let f = found_of c.args.given.now in
    lacks _ _ (no_serve (rows_of f) (λ words h. c.in_err-journal.ensures.both words.journal h.journal))
