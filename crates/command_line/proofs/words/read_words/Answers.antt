use Rattle.command_line.proofs.RefusalFacts.{refused_as_told}
use Rattle.command_line.proofs.words.read_words.Goals as goal

pub returns-in-Err-clause-refused : goal.returns-in-Err-clause-refused
returns-in-Err-clause-refused c = refused_as_told _ _ c.in-Err.error _ c.in-Err.ensures.kinds c.of_error.ensures
