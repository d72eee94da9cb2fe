use Rattle.changing_commands.proofs.OpeningFacts.{not_founded}
use Rattle.changing_commands.proofs.init.found_in.Goals as goal

pub returns-clause-refused : goal.returns-clause-refused
returns-clause-refused g c = not_founded g.S.Store c.args.founding.now c.args.conn c.found.result c.found.ensures.cause c.found.ensures.same c.found.ensures.crash
