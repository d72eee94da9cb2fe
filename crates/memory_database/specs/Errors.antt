-- What an error is told as where the disk is memory.
use Rattle.sqlite_trees.specs.declared.error.StoreError.{StoreError}
use Rattle.sqlite_trees.specs.declared.error.StoreError.TheVariants.{OutOfMemory, Io, Corrupt, Full, Broken, Unstorable}
use Rattle.sqlite.specs.declared.error.Error.{Error}
use Rattle.sqlite.specs.declared.error.Error.TheVariants.{SqliteFailure}
use Rattle.sqlite.specs.declared.error.ErrorCode.TheVariants as code

-- a fault of the disk is want of memory
abbrev pub memory_error : StoreError → StoreError
memory_error OutOfMemory = OutOfMemory
memory_error Io = OutOfMemory
memory_error Corrupt = OutOfMemory
memory_error Full = OutOfMemory
memory_error Broken = Broken
memory_error Unstorable = Unstorable

-- an error of the disk is want of memory where a database is opened
abbrev pub opening_error : Error → Error
opening_error (SqliteFailure code.SystemIoFailure) = SqliteFailure code.OutOfMemory
opening_error (SqliteFailure code.DiskFull) = SqliteFailure code.OutOfMemory
opening_error error = error
