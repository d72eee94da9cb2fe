-- A database that is closed with a mark, which is its user version.
use Rattle.std.specs.Prelude.{◌≡◌, ◌⊎◌, ℕ, IsTrue, Option, Some, None}
use Rattle.sqlite_disk.specs.declared.Disk.{Ghosts}
use Rattle.sqlite_disk.specs.declared.Files.{Files}
use Rattle.sqlite_wal.specs.Files.{outcomes}
use Rattle.sqlite_wal.specs.Recovery.{Image}
use Rattle.sqlite_trees.specs.Objects.{with_version}
use Rattle.sqlite_trees.specs.Tree.{Trees}
use Rattle.sqlite_trees.specs.View.{IsClean}
use Rattle.sqlite_store.specs.FileStore.{recovers, view}
use Rattle.sqlite_store.specs.declared.store.FileStore.{FileStore}
use Rattle.sqlite.specs.Closing.{HoldsAlone}
use Rattle.sqlite.specs.Files.{file_state, image_of}
use Rattle.sqlite.specs.Held.{Held}
use Rattle.sqlite.specs.State.{HasCleanDisk}

-- trees with a mark, where one is set
abbrev pub marked : Option ℕ → Trees → Trees
marked None db = db
marked (Some mark) db = with_version db mark

-- the last commit, with a mark where one is set, is in the database file, as it reads now and after a
-- crash
pub record IsCopiedAs {D : Type 0} {g : Ghosts D} (c : Held (FileStore D g)) (mark : Option ℕ)
    (files : Files D) : Type 0 where
  pub was_clean : HasCleanDisk (file_state c)
  pub was_open : IsTrue (file_state c).is_open
  pub seen : HoldsAlone (image_of g files) (marked mark (file_state c).committed.trees)
  pub left : (image : Image) → outcomes g files.log files.db image
      → HoldsAlone image (marked mark (file_state c).committed.trees)

-- a crash leaves what it could leave before, or the last commit with a mark where one is set
abbrev pub MayBeLeft : {D : Type 0} {g : Ghosts D} → Held (FileStore D g) → Option ℕ
    → FileStore D g → Type 0
MayBeLeft c mark store =
    IsClean (view store) → (db : Trees) → recovers store db
    → recovers c.store db ⊎ (db ≡ marked mark (file_state c).committed.trees)
