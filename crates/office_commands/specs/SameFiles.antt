-- A command whose journal and database are one file, or of which one is made beside the other.
use Rattle.std.specs.Prelude.{◌≡◌, ◌⊎◌, ℕ, List, Bool, true, false, Option, Some, None, Result, Ok}
use Rattle.std.specs.Prelude.{Err, option_copied}
use Rattle.std.proofs.Common.{Bor}
use Rattle.std.specs.declared.alloc.AllocError.{AllocError}
use Rattle.command_line.specs.Meaning.{journal_named}
use Rattle.command_line.specs.declared.command.Command.{Command}
use Rattle.command_line.specs.declared.command.Command.TheVariants as command
use Rattle.command_host.specs.declared.fault.CommandFault.{CommandFault}
use Rattle.command_host.specs.declared.fault.CommandFault.TheVariants as fault
use Rattle.no_memory.specs.Witness.{witness}

-- the texts of two paths that may be given
abbrev pub texts_of : Option (Bor (List ℕ) × Bor (List ℕ)) → Option (List ℕ × List ℕ)
texts_of None = None
texts_of (Some paths) = Some (paths.0.now, paths.1.now)

-- a journal and a database, where a journal is named
abbrev pub given_with : (journal : Option (List ℕ)) (database : List ℕ) → Option (List ℕ × List ℕ)
given_with (Some journal) database = Some (journal, database)
given_with None database = None

-- the journal and the database that a command writes, where it names both
abbrev pub files_named : Command → Option (List ℕ × List ℕ)
files_named (command.Init words) = given_with (option_copied words.journal) words.database.now
files_named (command.Desk database journal) = given_with (journal_named journal) database.now
files_named (command.Serve words) = given_with (journal_named words.journal) words.database.now
files_named (command.Rebuild database journal) = Some (journal.now, database.now)
files_named _ = None

-- what came of asking whether the file of a journal and a database are one
module _ (Compares : (journal database : List ℕ) → Result Bool AllocError → Type 0) where
  -- a command names no two such files; or they aren't one
  abbrev pub AreApart : Option (List ℕ × List ℕ) → Type 0
  AreApart None = Unit {0}
  AreApart (Some files) = Compares files.0 files.1 (Ok false)

  abbrev pub IsApart : Command → Type 0
  IsApart asked = AreApart (files_named asked)

  -- a command names two files, which are one; or that couldn't be said for want of memory
  abbrev pub AreUnapart : Option (List ℕ × List ℕ) → CommandFault → Type 0
  AreUnapart None why = ⊥
  AreUnapart (Some files) why =
      ((why ≡ fault.SameFile) × Compares files.0 files.1 (Ok true))
      ⊎ ((why ≡ fault.NoMemory witness) × ((e : AllocError) × Compares files.0 files.1 (Err e)))

  abbrev pub IsUnapart : Command → CommandFault → Type 0
  IsUnapart asked = AreUnapart (files_named asked)

  -- a command that ended well named no such files, and this was done
  pub record WasApart (asked : Command) (Done : Type 0) : Type 0 where
    pub apart : IsApart asked
    pub done : Done

  -- a command whose files are one is refused for that, and this is so then; or it fails so
  abbrev pub FailsApart : Command → (Unused : Type 0) → (Fails : CommandFault → Type 0)
      → CommandFault → Type 0
  FailsApart asked Unused Fails why =
      (IsUnapart asked why × Unused) ⊎ (IsApart asked × Fails why)
