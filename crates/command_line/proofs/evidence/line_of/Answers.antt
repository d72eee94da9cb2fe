use Rattle.std.proofs.Common.{None, codes}
use Rattle.clap.specs.Words.{found_of, rows_of}
use Rattle.command_line.proofs.Getters.{text_is}
use Rattle.command_line.proofs.RefusalFacts.{no_line_given}
use Rattle.command_line.proofs.evidence.line_of.Goals as goal

pub returns-in-None-line_number-clause-lacking : goal.returns-in-None-line_number-clause-lacking
returns-in-None-line_number-clause-lacking c =
    let f = found_of c.args.given.now in
    no_line_given (rows_of f) _ (text_is f (codes "line") _ c.in-Some.ensures) c.in-None-line_number.ensures.lacking

pub returns-in-None-clause-line : goal.returns-in-None-clause-line
returns-in-None-clause-line c = text_is (found_of c.args.given.now) (codes "line") None c.in-None.ensures
