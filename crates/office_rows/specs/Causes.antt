-- Why a call over a connection fails.
use Rattle.std.specs.Prelude.{◌≡◌, ◌⊎◌, false}
use Rattle.sqlite.specs.State.{State}
use Rattle.sqlite_disk.specs.Disk.{MoreFaults}
use Rattle.office_words.specs.declared.fault.Fault.{Fault}
use Rattle.office_words.specs.declared.fault.Fault.TheVariants.{NoMemory, Disk, Full, NotAnOffice}

-- There was no memory, or between the two the disk failed or refused a call. `Disk` is also the
-- fault of each call over a connection that was shut. None is for the form of the tables.
abbrev pub HasFailed : State → State → Fault → Type 0
HasFailed old new (NoMemory _) = Unit {0}
HasFailed old new Disk = MoreFaults old.faults new.faults ⊎ (old.is_open ≡ false)
HasFailed old new Full = MoreFaults old.faults new.faults
HasFailed old new NotAnOffice = ⊥
