-- Why an office isn't opened again.
use Rattle.std.specs.Prelude.{◌≡◌, ◌⊎◌, false}
use Rattle.sqlite_disk.specs.declared.Disk.{Ghosts}
use Rattle.sealed_log.specs.Faults.{IsOfCall}
use Rattle.sealed_log.specs.declared.fault.LogFault.{LogFault}
use Rattle.journal_faults.specs.Faults.{log_fault}
use Rattle.journal_faults.specs.declared.not_reopened.NotReopened.{NotReopened}
use Rattle.journal_faults.specs.declared.not_reopened.NotReopened.TheVariants.{Unsealed, NotALine}
use Rattle.journal_faults.specs.declared.not_reopened.NotReopened.TheVariants.{Changed, OtherJournal}
use Rattle.journal_faults.specs.declared.not_reopened.NotReopened.TheVariants.{Office, Log, NoMemory}

-- the file or memory failed, and neither the journal nor the office
abbrev pub IsOutside : NotReopened → Type 0
IsOutside Unsealed = ⊥
IsOutside NotALine = ⊥
IsOutside (Changed at) = ⊥
IsOutside OtherJournal = ⊥
IsOutside (Office fault) = ⊥
IsOutside Log = Unit {0}
IsOutside (NoMemory _) = Unit {0}

-- the journal is none, or another's, or was changed
abbrev pub IsRefusal : NotReopened → Type 0
IsRefusal Unsealed = Unit {0}
IsRefusal NotALine = Unit {0}
IsRefusal (Changed at) = Unit {0}
IsRefusal OtherJournal = Unit {0}
IsRefusal (Office fault) = ⊥
IsRefusal Log = ⊥
IsRefusal (NoMemory _) = ⊥

module _ {D : Type 0} (g : Ghosts D) where
  -- a call of the file failed between the two, with a fault that is told so
  pub record FailsAs (old new : D) (why : NotReopened) : Type 0 where
    pub met : LogFault
    pub call : IsOfCall g old new met
    pub is : log_fault met ≡ why

  -- the file has a fault only where a call of it failed between the two, or a sync had failed before
  abbrev pub HasFileCause : (old new : D) → NotReopened → Type 0
  HasFileCause old new Log = (g.is_usable old ≡ false) ⊎ FailsAs old new Log
  HasFileCause old new why = Unit {0}
