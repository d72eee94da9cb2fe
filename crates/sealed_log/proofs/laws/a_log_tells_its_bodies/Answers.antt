use Rattle.sealed_log.proofs.ToldFacts.{told_text}
use Rattle.sealed_log.proofs.laws.a_log_tells_its_bodies.Goals as goal

pub returns : goal.returns
returns c = told_text
