-- An office of schema 1 in a file that was made one of schema 2.
use Rattle.std.specs.Prelude.{◌≡◌, ◌⊎◌, Ok, ℕ, List, Bool, true, false, Option, Some, None}
use Rattle.sqlite.specs.Held.{Held, state}
use Rattle.sqlite.specs.State.{HasCleanDisk}
use Rattle.sqlite.specs.Store.{Ghosts}
use Rattle.office_founding.specs.Migration.{FailsToMigrate, IsMigration, WasOld}
use Rattle.office_founding.specs.declared.fault.MigrationFault.{MigrationFault}
use Rattle.command_host.specs.Marks.{parted_mark}
use Rattle.command_host.specs.Openings.{IsClosed, IsEnded, IsNotThere, IsUnlimited}
use Rattle.command_host.specs.Openings.{IsWithJournal}
use Rattle.command_host.specs.declared.databases.Databases as databases
use Rattle.command_host.specs.declared.fault.CommandFault.{CommandFault}
use Rattle.command_host.specs.declared.fault.CommandFault.TheVariants as fault

-- A database was opened, of which this is known, and its office of schema 1 was migrated. What that
-- left was closed with this mark or as it was marked, of which this is known.
pub record WasMigrated {S : Type 0} (g : Ghosts S) (Opened : Held S → Type 0) (mark : Option ℕ)
    (Closed : Held S → Option ℕ → Type 0) : Type 0 where
  pub old : Held S
  pub new : Held S
  pub opened : IsUnlimited Opened old
  pub was : HasCleanDisk (state g new) → WasOld g old
  pub migration : IsMigration {E = MigrationFault} (state g old) (state g new) (Ok (tt {0}))
  pub closed : Closed new mark

-- A connection was migrated, and closed with this mark or as it was marked, of which this is known.
abbrev pub IsMigratedFrom : {S : Type 0} → Ghosts S → (mark : Option ℕ)
    → (Closed : Held S → Option ℕ → Type 0) → (old : Held S) → Type 0
IsMigratedFrom {S} g mark Closed old =
    (new : Held S) × (HasCleanDisk (state g new) → WasOld g old)
    × IsMigration {E = MigrationFault} (state g old) (state g new) (Ok (tt {0}))
    × Closed new mark

-- A connection wasn't migrated for this, and was closed; or it was, and couldn't be closed.
abbrev pub IsUnmigratedFrom : {S D C : Type 0} → Ghosts S → databases.Ghosts D (Held S) C
    → (mark : Option ℕ) → (old : Held S) → CommandFault → Type 0
IsUnmigratedFrom {S} g d mark old why =
    ((told : MigrationFault) × (why ≡ fault.Migration told)
    × ((new : Held S) × (HasCleanDisk (state g new) → FailsToMigrate g old new told)
    × IsEnded d new None))
    ⊎ ((why ≡ fault.Close) × IsMigratedFrom g mark (IsEnded d) old)

-- the mark that is set, where an office goes on without its journal
abbrev pub mark_without : Bool → Option ℕ
mark_without true = Some parted_mark
mark_without false = None

module _ {S D C : Type 0} (g : Ghosts S) (d : databases.Ghosts D (Held S) C) (path : List ℕ)
    (without_journal : Bool) where
  -- the office at the path was migrated, and has no journal, or goes on without
  pub record HasMigrated : Type 0 where
    pub none : without_journal ≡ false → d.marked path (Ok 0)
    pub migrated : WasMigrated g (d.opened path) (mark_without without_journal) (IsClosed d.closed)

  -- No database is at the path; or the one there has a journal, and doesn't go on without; or it was
  -- opened, and not migrated or not closed.
  abbrev pub FailsToMigrateAt : CommandFault → Type 0
  FailsToMigrateAt why =
      ((without_journal ≡ true) × IsNotThere d path why)
      ⊎ ((without_journal ≡ false) × IsWithJournal d path why)
      ⊎ ((without_journal ≡ false → d.marked path (Ok 0))
      × ((old : Held S) × IsUnlimited (d.opened path) old
      × IsUnmigratedFrom g d (mark_without without_journal) old why))
