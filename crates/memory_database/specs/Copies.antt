-- A database in a copy of its two files.
use Rattle.std.specs.Prelude.{◌≡◌, ◌⊎◌, ℕ, List}
use Rattle.sqlite_store.specs.declared.store.FileStore.{FileStore}
use Rattle.sqlite_trees.specs.declared.store.Store.{Ghosts}
use Rattle.sqlite_trees.specs.Tree.{Trees}
use Rattle.sqlite.specs.Files.{file_state, over_files, HoldsDatabase, IsNothing, IsOpened}
use Rattle.sqlite.specs.Held.{Held, IsNew}
use Rattle.sqlite.specs.Start.{FindsIn}
use Rattle.sqlite.specs.declared.error.Error.{Error}
use Rattle.sqlite.specs.declared.error.Error.TheVariants.{SqliteFailure}
use Rattle.sqlite.specs.declared.error.ErrorCode.TheVariants as code
use Rattle.memory_database.specs.declared.file.VolatileFile.{VolatileFile}
use Rattle.memory_database.specs.MemoryStore.{memory_disk}

abbrev pub CopyStore : Type 0
CopyStore = FileStore VolatileFile memory_disk

abbrev pub over_copy : Ghosts CopyStore
over_copy = over_files

-- a connection was just opened, and has the database that a log and a file with these bytes hold
pub record IsCopyOf (log database : List ℕ) (conn : Held CopyStore) : Type 0 where
  pub fresh : IsNew conn
  pub opened : IsOpened conn
  pub found : FindsIn (record { log = log; db = database }) (file_state conn)

-- a log and a file with these bytes hold a database, or nothing yet
abbrev pub HoldOne : (log database : List ℕ) → Type 0
HoldOne log database =
    ((db : Trees) × HoldsDatabase (record { log = log; db = database }) db)
    ⊎ IsNothing (record { log = log; db = database })

-- why no database is opened in a copy of them: they hold none, or there was no memory
abbrev pub FailsToCopy : (log database : List ℕ) → Error → Type 0
FailsToCopy log database error =
    (((error ≡ SqliteFailure code.NotADatabase) ⊎ (error ≡ SqliteFailure code.DatabaseCorrupt))
    × (HoldOne log database → ⊥))
    ⊎ (error ≡ SqliteFailure code.OutOfMemory)
