use Rattle.std.proofs.Common.{None, codes, sym}
use Rattle.clap.specs.Words.{found_of, rows_of}
use Rattle.command_line.proofs.Getters.{text_is}
use Rattle.command_line.proofs.RefusalFacts.{both_said}
use Rattle.command_line.proofs.journal.journal_of.Goals as goal

pub returns-in-Some-true-clause-both : goal.returns-in-Some-true-clause-both
returns-in-Some-true-clause-both c =
    let f = found_of c.args.given.now in
    both_said (rows_of f) _ (text_is f (codes "journal") _ c.in-Some-true.ensures) (sym c.in-Some-true.ensures')

pub returns-in-Some-false-clause-said : goal.returns-in-Some-false-clause-said
returns-in-Some-false-clause-said c =
    (text_is (found_of c.args.given.now) (codes "journal") _ c.in-Some-false.ensures, sym c.in-Some-false.ensures')

pub returns-in-None-true-clause-said : goal.returns-in-None-true-clause-said
returns-in-None-true-clause-said c =
    (text_is (found_of c.args.given.now) (codes "journal") None c.in-None-true.ensures, sym c.in-None-true.ensures')

pub returns-in-None-false-clause-said : goal.returns-in-None-false-clause-said
returns-in-None-false-clause-said c =
    (text_is (found_of c.args.given.now) (codes "journal") None c.in-None-false.ensures, sym c.in-None-false.ensures')
