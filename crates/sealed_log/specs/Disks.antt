-- What the calls of this crate do to a disk.
use Rattle.std.specs.Prelude.{◌≡◌, ◌⊎◌, ◌≤◌, ◌+◌, ◌-◌, ◌^◌, ℕ, min, List, ◌++◌, false, IsTrue, length}
use Rattle.sqlite_disk.specs.declared.Disk.{Ghosts}
use Rattle.sqlite_disk.specs.Disk.{Only, MoreFaults}
use Rattle.sealed_log.specs.Faults.{IsOfCall}
use Rattle.sealed_log.specs.Told.{HasTail}
use Rattle.sealed_log.specs.declared.written.Written.{Written}
use Rattle.sealed_log.specs.declared.written.Written.TheVariants.{Whole, Undone, Lost}

module _ {D : Type 0} (g : Ghosts D) where
  -- the disk was read, and nothing else was done; so no call of it was refused for want of room
  pub record IsRead (old new : D) : Type 0 where
    pub seen : g.seen new ≡ g.seen old
    pub usable : IsTrue (g.is_usable new)
    pub counts : g.faults old ≤ g.faults new
    pub tally : g.tally_of new ≡ g.tally_of old
    pub clean : IsTrue (g.is_clean new) → IsTrue (g.is_clean old)
    pub crash : (left : List ℕ) → g.may_leave new left → g.may_leave old left

  -- the file has just these bytes, and a crash leaves them
  pub record HasJust (disk : D) (bytes : List ℕ) : Type 0 where
    pub seen : g.seen disk ≡ bytes
    pub settled : Only bytes (g.may_leave disk)

  -- whatever a crash leaves are these bytes and a tail
  abbrev pub LeavesTail : D → List ℕ → ℕ → Type 0
  LeavesTail disk bytes most =
      (left : List ℕ) → g.may_leave disk left → HasTail bytes most left

  -- the line stands behind the bytes; or nothing of it does; or it isn't known what a crash leaves
  abbrev pub HasBecome : D → List ℕ → List ℕ → Written → Type 0
  HasBecome disk bytes line Whole = HasJust disk (bytes ++ line)
  HasBecome disk bytes line (Undone fault) = HasJust disk bytes
  HasBecome disk bytes line (Lost fault) = Unit {0}

  pub record IsTried (old new : D) (bytes line : List ℕ) (written : Written) : Type 0 where
    pub became : HasBecome new bytes line written
    pub crash : LeavesTail new bytes (length line)

  -- no sync failed, and a crash leaves what the file has
  pub record IsKept (disk : D) : Type 0 where
    pub usable : IsTrue (g.is_usable disk)
    pub settled : Only (g.seen disk) (g.may_leave disk)

  -- the disk can be used on, unless it isn't known what a crash leaves
  abbrev pub StaysKept : D → Written → Type 0
  StaysKept disk Whole = IsKept disk
  StaysKept disk (Undone fault) = IsKept disk
  StaysKept disk (Lost fault) = Unit {0}

  -- a sync failed, or one call after another did
  abbrev pub HasFailedTwice : D → D → Type 0
  HasFailedTwice old new =
      (g.is_usable new ≡ false) ⊎ (min (g.faults old + 2) (2 ^ 64 - 1) ≤ g.faults new)

  -- a line is lost only so: where taking it back failed too, or a sync did
  abbrev pub IsLostBy : D → D → Written → Type 0
  IsLostBy old new Whole = Unit {0}
  IsLostBy old new (Undone fault) = Unit {0}
  IsLostBy old new (Lost fault) = HasFailedTwice old new

  -- only a call that failed keeps a line from being put
  abbrev pub IsCaused : D → D → Written → Type 0
  IsCaused old new Whole = Unit {0}
  IsCaused old new (Undone fault) = MoreFaults (g.faults old) (g.faults new)
  IsCaused old new (Lost fault) = MoreFaults (g.faults old) (g.faults new)

  -- the fault of a line that wasn't put is that of a call that failed
  abbrev pub NamesCall : D → D → Written → Type 0
  NamesCall old new Whole = Unit {0}
  NamesCall old new (Undone fault) = IsOfCall g old new fault
  NamesCall old new (Lost fault) = IsOfCall g old new fault
