-- A connection to a database in memory.
use Rattle.std.specs.Prelude.{◌≡◌, true, false, [], Some, IsTrue}
use Rattle.sqlite_disk.specs.declared.Disk as disk
use Rattle.sqlite_store.specs.declared.store.FileStore.{FileStore}
use Rattle.sqlite_trees.specs.Objects.{catalog_tree}
use Rattle.sqlite_trees.specs.View.{is_fault}
use Rattle.sqlite_trees.specs.declared.error.StoreError.TheVariants.{OutOfMemory}
use Rattle.sqlite_trees.specs.declared.store.Store.{Ghosts}
use Rattle.sqlite.specs.Files.{over_files}
use Rattle.sqlite.specs.Steps.{IsFresh}
use Rattle.memory_database.specs.declared.file.VolatileFile.{VolatileFile}
use Rattle.memory_database.specs.declared.store.InMemory.{InMemory}
use Rattle.memory_database.specs.VolatileFile.{bytes_of, faults_of}

-- what a `VolatileFile` is as a disk
abbrev pub memory_disk : disk.Ghosts VolatileFile
memory_disk = record {
  seen = bytes_of;
  may_leave = λ file left. left ≡ bytes_of file;
  is_usable = λ _. true;
  faults = faults_of;
  tally_of = λ _. record { caught = 0; refused = 0 };
  is_clean = λ _. true;
  key_of = λ _. 0;
  is_fair = λ _ _. true;
  is_frozen = λ _. false;
  is_rotten = λ _ _ _. false;
  is_mixing = λ _. false;
}

-- what such a store is, whose disk is memory
abbrev pub over : {S : Type 0} → Ghosts S → Ghosts (InMemory S)
over g = record {
  view = λ it. g.view it.inner;
  faults = λ it. g.faults it.inner;
  recovers = λ it. g.recovers it.inner;
  is_shielded = λ it. g.is_shielded it.inner;
  is_step = λ old new tree. g.is_step old.inner new.inner tree;
  blamed = λ _. Some OutOfMemory;
  names = λ _ _ error. is_fault error ≡ false;
}

abbrev pub MemoryStore : Type 0
MemoryStore = InMemory (FileStore VolatileFile memory_disk)

abbrev pub over_memory : Ghosts MemoryStore
over_memory = over over_files

-- a store was just made, and lists no table
pub record HasNoTable (it : MemoryStore) : Type 0 where
  pub fresh : IsFresh (over_memory.view it)
  pub is_open : IsTrue (over_memory.view it).is_open
  pub none : (over_memory.view it).trees catalog_tree ≡ []
