-- The faults of a log, and the calls of its disk that failed.
use Rattle.std.specs.Prelude.{◌≡◌, ◌⊎◌, ◌≤◌, ◌-◌, ◌^◌, min, Bool, true, false, if◌then◌else◌, MatchBool}
use Rattle.std.specs.declared.io.ErrorKind.{ErrorKind}
use Rattle.std.specs.declared.io.ErrorKind.TheVariants.{OutOfMemory}
use Rattle.sqlite_disk.specs.declared.Disk.{Ghosts}
use Rattle.sqlite_disk.specs.Disk.{MoreFaults}
use Rattle.sqlite_disk.specs.Refusal.{is_full_kind}
use Rattle.sealed_log.specs.declared.fault.LogFault.{LogFault}
use Rattle.sealed_log.specs.declared.fault.LogFault.TheVariants.{NoMemory, Disk, Full}
use Rattle.no_memory.specs.Witness.{witness}

abbrev pub is_memory_kind : ErrorKind → Bool
is_memory_kind OutOfMemory = true
is_memory_kind _ = false

-- the fault of a call that reads and failed with an error of this kind
abbrev pub fault_of_read : ErrorKind → LogFault
fault_of_read kind = if is_memory_kind kind then NoMemory witness else Disk

-- the fault of a call that writes: the kind says whether it was refused for want of room
abbrev pub fault_of_write : ErrorKind → LogFault
fault_of_write kind = if is_full_kind kind then Full else fault_of_read kind

-- the fault says that there is no room
abbrev pub is_full : LogFault → Bool
is_full Full = true
is_full Disk = false
is_full (NoMemory _) = false

module _ {D : Type 0} (g : Ghosts D) where
  -- no call that failed is forgotten, nor one that was refused for want of room
  pub record IsLater (old new : D) : Type 0 where
    pub faults : g.faults old ≤ g.faults new
    pub refused : min (g.tally_of old).refused (2 ^ 64 - 1) ≤ (g.tally_of new).refused

  -- a call between the two failed, and was refused for want of room just where so
  pub record HasFailed (old new : D) (for_room : Bool) : Type 0 where
    pub before : D
    pub after : D
    pub begun : IsLater old before
    pub failed : MoreFaults (g.faults before) (g.faults after)
    pub room : MatchBool for_room
        (MoreFaults (g.tally_of before).refused (g.tally_of after).refused)
        ((g.tally_of after).refused ≡ (g.tally_of before).refused)
    pub ended : IsLater after new

  -- a call between the two failed, and this is its fault: `full` just where there was no room
  abbrev pub IsOfCall : (old new : D) → LogFault → Type 0
  IsOfCall old new fault = HasFailed old new (is_full fault)

  -- a call between the two failed, and this is its fault; or there was no memory
  abbrev pub IsMetBetween : (old new : D) → LogFault → Type 0
  IsMetBetween old new fault = (fault ≡ NoMemory witness) ⊎ IsOfCall old new fault
