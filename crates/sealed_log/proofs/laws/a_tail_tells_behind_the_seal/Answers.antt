use Rattle.sealed_log.proofs.ToldFacts.{told_tail}
use Rattle.sealed_log.proofs.laws.a_tail_tells_behind_the_seal.Goals as goal

pub returns : goal.returns
returns c = told_tail
