-- An office of schema 1 that was migrated: what is known of it as it is closed.
use Rattle.std.proofs.Common.{◌≡◌, ℕ, List, Bool, true, false, Option, Result, Ok, Err, inr}
use Rattle.std.specs.Prelude.{IfErr, OnOk}
use Rattle.sqlite.specs.Held.{Held, state}
use Rattle.sqlite.specs.State.{HasCleanDisk}
use Rattle.sqlite.specs.Store.{Ghosts}
use Rattle.office_founding.specs.Migration.{IsMigration, WasOld}
use Rattle.office_founding.specs.declared.fault.MigrationFault.{MigrationFault}
use Rattle.command_host.specs.Openings.{IsClosed, IsEnded, IsUnlimited}
use Rattle.command_host.specs.declared.databases.Databases as databases
use Rattle.command_host.specs.declared.fault.CommandFault.{CommandFault}
use Rattle.command_host.specs.declared.fault.CommandFault.TheVariants as fault
use Rattle.changing_commands.specs.Migrations.{mark_without, FailsToMigrateAt, HasMigrated, IsMigratedFrom, IsUnmigratedFrom}

module _ {S D C : Type 0} (g : Ghosts S) (d : databases.Ghosts D (Held S) C) (mark : Option ℕ) (old new : Held S) (was : HasCleanDisk (state g new) → WasOld g old)
    (migration : IsMigration {E = MigrationFault} (state g old) (state g new) (Ok (tt {0}))) where
  pub migrated : (r : Result (Unit {0}) CommandFault) → OnOk r (IsClosed d.closed new mark) → OnOk r (IsMigratedFrom g mark (IsClosed d.closed) old)
  migrated (Ok done) closed = (new, was, migration, closed)
  migrated (Err why) closed = tt

  pub unclosed : (r : Result (Unit {0}) CommandFault) → IsEnded d new mark → IfErr r (λ why. why ≡ fault.Close) → IfErr r (IsUnmigratedFrom g d mark old)
  unclosed (Ok done) ended is = tt
  unclosed (Err why) ended is = inr (is, (new, was, migration, ended))

module _ {S D C : Type 0} (g : Ghosts S) (d : databases.Ghosts D (Held S) C) (path : List ℕ) (without : Bool) (old : Held S) (opened : IsUnlimited (d.opened path) old)
    (none : without ≡ false → d.marked path (Ok 0)) where
  -- what was opened at a path, and migrated
  pub migrated_there : (r : Result (Unit {0}) CommandFault) → OnOk r (IsMigratedFrom g (mark_without without) (IsClosed d.closed) old) → OnOk r (HasMigrated g d path without)
  migrated_there (Ok done) it = record {
    none = none;
    migrated = record { old = old; new = it.0; opened = opened; was = it.1; migration = it.2; closed = it.3 };
  }
  migrated_there (Err why) it = tt

  pub unmigrated_there : (r : Result (Unit {0}) CommandFault) → IfErr r (IsUnmigratedFrom g d (mark_without without) old) → IfErr r (FailsToMigrateAt g d path without)
  unmigrated_there (Ok done) it = tt
  unmigrated_there (Err why) it = inr (inr (none, (old, opened, it)))

-- a flag isn't both
pub not_both : {A : Type 0} (b : Bool) → b ≡ true → b ≡ false → A
not_both true one other = absurd (let c : true ≡ false = other in cc)
not_both false one other = absurd (let c : false ≡ true = one in cc)
