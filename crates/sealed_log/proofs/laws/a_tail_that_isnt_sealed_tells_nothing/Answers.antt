use Rattle.sealed_log.proofs.ToldFacts.{told_unsealed}
use Rattle.sealed_log.proofs.laws.a_tail_that_isnt_sealed_tells_nothing.Goals as goal

pub returns : goal.returns
returns c = told_unsealed
