use Rattle.sealed_log.proofs.NameFacts.{seal_names_all}
use Rattle.sealed_log.proofs.laws.a_seal_names_all.Goals as goal

pub returns : goal.returns
returns c = seal_names_all
