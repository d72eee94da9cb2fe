use Rattle.std.proofs.Common.{◌∙◌, None, Some, ap, sym}
use Rattle.clap.specs.Words.{found_of}
use Rattle.command_line.specs.Meaning.{is_set}
use Rattle.command_line.proofs.Getters.{text_is}
use Rattle.command_line.proofs.journal.is_set.Goals as goal

pub returns-in-Some : goal.returns-in-Some
returns-in-Some c =
    c.eq.ensures ∙ sym (ap is_set (text_is (found_of c.args.given.now) c.args.id.now (Some c.in-Some.set.now) c.in-Some.ensures))

pub returns-in-None : goal.returns-in-None
returns-in-None c = sym (ap is_set (text_is (found_of c.args.given.now) c.args.id.now None c.in-None.ensures))
