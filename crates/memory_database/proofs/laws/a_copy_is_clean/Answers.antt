use Rattle.memory_database.proofs.MemoryFacts.{copy_is_clean}
use Rattle.memory_database.proofs.laws.a_copy_is_clean.Goals as goal

pub returns : goal.returns
returns c = copy_is_clean
