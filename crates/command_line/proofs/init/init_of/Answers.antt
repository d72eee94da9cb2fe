use Rattle.std.proofs.Common.{None, codes, refl}
use Rattle.clap.specs.Words.{found_of, rows_of}
use Rattle.command_line.proofs.Getters.{text_is}
use Rattle.command_line.proofs.RefusalFacts.{lacks_value, no_init}
use Rattle.command_line.proofs.init.init_of.Goals as goal

pub returns-clause-command : goal.returns-clause-command
returns-clause-command c =
    let f = found_of c.args.given.now in (
      refl,
      record {
        database = text_is f (codes "database") _ c.in-Some.ensures;
        name = text_is f (codes "name") _ c.in-Some-get_str.ensures;
        team = text_is f (codes "team") _ c.in-Some-get_str-2.ensures;
        digest = text_is f (codes "digest") _ c.in-Some-get_str-3.ensures;
        capabilities = c.in_ok-capabilities.ensures;
        journal = text_is f (codes "journal") _ c.get_str-journal.ensures;
      },
    )

pub returns-in_default-clause-lacking : goal.returns-in_default-clause-lacking
returns-in_default-clause-lacking c =
    let f = found_of c.args.given.now in
    no_init (rows_of f) (λ words h. lacks_value _ _ (text_is f (codes "database") None c.in_default.ensures) h.database)

pub returns-in_default-get_str-clause-lacking : goal.returns-in_default-get_str-clause-lacking
returns-in_default-get_str-clause-lacking c =
    let f = found_of c.args.given.now in
    no_init (rows_of f) (λ words h. lacks_value _ _ (text_is f (codes "name") None c.in_default-get_str.ensures) h.name)

pub returns-in_default-get_str-2-clause-lacking : goal.returns-in_default-get_str-2-clause-lacking
returns-in_default-get_str-2-clause-lacking c =
    let f = found_of c.args.given.now in
    no_init (rows_of f) (λ words h. lacks_value _ _ (text_is f (codes "team") None c.in_default-get_str-2.ensures) h.team)

pub returns-in_default-get_str-3-clause-lacking : goal.returns-in_default-get_str-3-clause-lacking
returns-in_default-get_str-3-clause-lacking c =
    let f = found_of c.args.given.now in
    no_init (rows_of f) (λ words h. lacks_value _ _ (text_is f (codes "digest") None c.in_default-get_str-3.ensures) h.digest)
