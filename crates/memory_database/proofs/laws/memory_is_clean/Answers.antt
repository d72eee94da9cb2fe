use Rattle.memory_database.proofs.MemoryFacts.{memory_is_clean}
use Rattle.memory_database.proofs.laws.memory_is_clean.Goals as goal

pub returns : goal.returns
returns c = memory_is_clean
