-- What is known of each database in memory.
use Rattle.std.proofs.Common.{◌≡◌, ◌∙◌, false, [], IsTrue, Some, refl, ap}
use Rattle.sqlite_pool.specs.Pool.{state as state_of}
use Rattle.sqlite_store.specs.FileStore.{IsReady, schema_of, view}
use Rattle.sqlite_store.specs.Listed.{catalog_rows}
use Rattle.sqlite_store.specs.Listing.{listed_from}
use Rattle.sqlite_trees.specs.View.{Tells, doubt}
use Rattle.sqlite_trees.specs.declared.error.StoreError.{StoreError}
use Rattle.sqlite_trees.specs.declared.error.StoreError.TheVariants as stored
use Rattle.sqlite.specs.Held.{Held, state}
use Rattle.sqlite.specs.State.{Fails, HasCleanDisk, is_disk_error, store_error}
use Rattle.sqlite.specs.declared.error.Error.{Error}
use Rattle.memory_database.specs.Copies.{CopyStore, over_copy}
use Rattle.memory_database.specs.MemoryStore.{HasNoTable, MemoryStore, over_memory}

-- memory returns what was written
pub memory_is_clean : (conn : Held MemoryStore) → HasCleanDisk (state over_memory conn)
unfolding doubt state_of
memory_is_clean conn = refl

pub copy_is_clean : (conn : Held CopyStore) → HasCleanDisk (state over_copy conn)
unfolding doubt state_of
copy_is_clean conn = refl

never_told : (blamed cause : StoreError) → blamed ≡ stored.OutOfMemory → Tells (Some blamed) cause → is_disk_error (store_error cause) ≡ false
never_told blamed stored.OutOfMemory is told = refl
never_told blamed stored.Io is told = absurd (let e = told blamed refl refl in cc)
never_told blamed stored.Corrupt is told = absurd (let e = told blamed refl refl in cc)
never_told blamed stored.Full is told = absurd (let e = told blamed refl refl in cc)
never_told blamed stored.Broken is told = refl
never_told blamed stored.Unstorable is told = refl

-- what failed didn't fail for its disk
pub no_disk_fails : (old new : Held MemoryStore) (too_big : Type 0) (error : Error) → Fails (state over_memory old) (state over_memory new) too_big error → is_disk_error error ≡ false
no_disk_fails old new too_big error failed = ap is_disk_error failed.1 ∙ never_told stored.OutOfMemory failed.0 refl failed.4

-- a store that was just made, with no object listed, has no table
pub has_no_table : (it : MemoryStore) → IsReady it.inner → IsTrue (view it.inner).is_numbered → schema_of it.inner ≡ [] → HasNoTable it
unfolding doubt state_of
has_no_table it ready numbered none = record {
  fresh = record { sound = ready.sound refl; numbered = numbered; clean = ready.clean; unmarked = ready.unmarked };
  is_open = ready.is_open refl;
  none = catalog_rows _ _ _ ∙ ap (listed_from 0) none;
}
