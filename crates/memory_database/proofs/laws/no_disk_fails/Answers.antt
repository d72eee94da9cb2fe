use Rattle.memory_database.proofs.MemoryFacts.{no_disk_fails}
use Rattle.memory_database.proofs.laws.no_disk_fails.Goals as goal

pub returns : goal.returns
returns c old new = no_disk_fails old new _
