-- What a `VolatileFile` shows.
use Rattle.std.specs.Prelude.{ℕ, List}
use Rattle.memory_database.specs.declared.file.VolatileFile.{VolatileFile}

-- the bytes of a file, for the member `seen`
abbrev pub bytes_of : VolatileFile → List ℕ
bytes_of file = file.bytes.items

-- the faults of a file, for the member `faults`
abbrev pub faults_of : VolatileFile → ℕ
faults_of file = file.faults
