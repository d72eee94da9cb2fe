use Rattle.std.proofs.Common.{◌∙◌, None, codes, sym}
use Rattle.clap.specs.Words.{found_of, rows_of}
use Rattle.command_line.proofs.Getters.{text_is}
use Rattle.command_line.proofs.RefusalFacts.{both_given, none_given}
use Rattle.command_line.proofs.serve.requests_of.Goals as goal

pub returns-in-Some-clause-lacking : goal.returns-in-Some-clause-lacking
returns-in-Some-clause-lacking c =
    let f = found_of c.args.given.now in
    both_given (rows_of f) _ (sym c.is_set.ensures ∙ c.if-is_set.true) (text_is f (codes "requests") _ c.in-Some.ensures)

pub returns-in-None-clause-asked : goal.returns-in-None-clause-asked
returns-in-None-clause-asked c =
    let f = found_of c.args.given.now in
    (sym c.is_set.ensures ∙ c.if-is_set.true, text_is f (codes "requests") None c.in-None.ensures)

pub returns-in-None-count_of-clause-lacking : goal.returns-in-None-count_of-clause-lacking
returns-in-None-count_of-clause-lacking c =
    none_given (rows_of (found_of c.args.given.now)) (sym c.is_set.ensures ∙ c.if-is_set.false) c.in-None-count_of.ensures.lacking
