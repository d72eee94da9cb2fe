-- The witness that memory was refused, as clauses name it.
use Rattle.no_memory.specs.declared.witness.NoMemory.{NoMemory}

-- It has nothing to tell apart, so each witness is this one.
pub witness : NoMemory
witness = record { refused = record {} }
