use Rattle.memory_database.proofs.CopyFacts.{held_fails, no_disk_fails}
use Rattle.memory_database.proofs.laws.want_of_memory_fails_a_copy.Goals as goal

pub returns-clause-held : goal.returns-clause-held
returns-clause-held c = held_fails

pub returns-clause-disk : goal.returns-clause-disk
returns-clause-disk c = no_disk_fails
