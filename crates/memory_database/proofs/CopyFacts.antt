-- Why no database is opened in a copy of its files.
use Rattle.std.proofs.Common.{◌≡◌, ◌∙◌, List, ℕ, refl, ap, inl, inr}
use Rattle.sqlite_disk.specs.declared.Files.{Files}
use Rattle.sqlite_pool.specs.Pool.{files as files_of, state as state_of}
use Rattle.sqlite_store.specs.Report.{named}
use Rattle.sqlite_trees.specs.View.{doubt}
use Rattle.sqlite_trees.specs.declared.error.StoreError.TheVariants as stored
use Rattle.sqlite_wal.specs.Reads.{tally_of_files}
use Rattle.sqlite.specs.Files.{FailsToOpenFiles, IsCleanLeft, tally_left}
use Rattle.sqlite.specs.State.{store_error}
use Rattle.sqlite.specs.declared.error.Error.{Error}
use Rattle.sqlite.specs.declared.error.Error.TheVariants.{SqliteFailure}
use Rattle.sqlite.specs.declared.error.ErrorCode.TheVariants as code
use Rattle.sqlite.specs.declared.file.Leftover.{Leftover}
use Rattle.sqlite.specs.declared.file.Leftover.TheVariants as left
use Rattle.memory_database.specs.Copies.{FailsToCopy, HoldOne}
use Rattle.memory_database.specs.Errors.{opening_error}
use Rattle.memory_database.specs.declared.file.VolatileFile.{VolatileFile}
use Rattle.memory_database.specs.MemoryStore.{memory_disk}

-- memory returns what was written, also to an opening that failed
pub left_is_clean : (rest : Leftover VolatileFile memory_disk) → IsCleanLeft rest
unfolding doubt state_of
left_is_clean (left.Files files) = refl
left_is_clean (left.Unopened files) = refl
left_is_clean (left.Store it) = refl

-- no failure of it is found to be damage
failed_io : (files : Files VolatileFile) (rest : Leftover VolatileFile memory_disk)
    → named (tally_of_files memory_disk (files.log, files.db)) (tally_left rest) ≡ stored.Io
unfolding doubt state_of files_of
failed_io files (left.Files now) = refl
failed_io files (left.Unopened now) = refl
failed_io files (left.Store it) = refl

pub fails_to_copy : (files : Files VolatileFile) (rest : Leftover VolatileFile memory_disk) (error : Error) → FailsToOpenFiles files rest error
    → FailsToCopy files.log.bytes.items files.db.bytes.items (opening_error error)
fails_to_copy files rest error (inl none) = inr (ap opening_error none)
fails_to_copy files rest error (inr (inl (inl is, never))) = inl (inl (ap opening_error is), never)
fails_to_copy files rest error (inr (inl (inr is, never))) = inl (inr (ap opening_error is), never)
fails_to_copy files rest error (inr (inr (inl failed))) = inr (ap opening_error (failed.0 ∙ ap store_error (failed_io files rest)))
fails_to_copy files rest error (inr (inr (inr full))) = inr (ap opening_error full.0)

pub held_fails : (log database : List ℕ) (error : Error) → HoldOne log database → FailsToCopy log database error → error ≡ SqliteFailure code.OutOfMemory
held_fails log database error holds (inl (is, never)) = absurd (never holds)
held_fails log database error holds (inr none) = none

pub no_disk_fails : (log database : List ℕ) → FailsToCopy log database (SqliteFailure code.SystemIoFailure) → ⊥
no_disk_fails log database (inl (inl is, never)) = cc
no_disk_fails log database (inl (inr is, never)) = cc
no_disk_fails log database (inr is) = cc
