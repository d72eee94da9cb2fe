-- What the databases in the files of a host are known by.
use Rattle.std.specs.Prelude.{ℕ, Option}
use Rattle.sqlite_disk.specs.declared.Disk as disk
use Rattle.sqlite_disk.specs.declared.Files.{Files}
use Rattle.sqlite_wal.specs.Reads.{AreClean}
use Rattle.sqlite_wal.specs.Recovery.{Image}
use Rattle.sqlite_store.specs.declared.store.FileStore.{FileStore}
use Rattle.database_files.specs.Marks.{IsCopiedAs}
use Rattle.sqlite.specs.Files.{file_state, IsOpened}
use Rattle.sqlite.specs.Held.{Held}
use Rattle.sqlite.specs.Start.{FindsIn}
use Rattle.sqlite.specs.State.{HasCleanDisk}

-- a database was opened in files that held this
abbrev pub IsFoundIn : {D : Type 0} {g : disk.Ghosts D} → Image → Held (FileStore D g) → Type 0
IsFoundIn image conn =
    HasCleanDisk (file_state conn) → IsOpened conn × FindsIn image (file_state conn)

-- a database was closed with a mark or as it was marked, and these files, where they are clean, have
-- all of it
abbrev pub IsClosedInto : {D : Type 0} {g : disk.Ghosts D} → Held (FileStore D g) → Option ℕ
    → Files D → Type 0
IsClosedInto {g = g} conn mark files = AreClean g files.log files.db → IsCopiedAs conn mark files
