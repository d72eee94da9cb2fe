use Rattle.sealed_log.proofs.ToldFacts.{no_more_behind}
use Rattle.sealed_log.proofs.laws.a_crash_leaves_no_more_behind.Goals as goal

pub returns : goal.returns
returns c = no_more_behind
