-- What the calls of a store leave of a connection: a read, and a write.
use Rattle.std.specs.Prelude.{◌≡◌, ◌≢◌, false, Result, Err, IfOk, IfErr, OnOk, OnErr, IsTrue}
use Rattle.sqlite.specs.State.{State, HasCleanDisk, Survives}
use Rattle.office_words.specs.declared.fault.Fault.{Fault}
use Rattle.office_words.specs.declared.fault.Fault.TheVariants.{NotAnOffice}
use Rattle.office_words.specs.Tables.{Tables}
use Rattle.office_rows.specs.Causes.{HasFailed}
use Rattle.office_rows.specs.Queries.{IsAsItWas}
use Rattle.office_store.specs.Shown.{IsIdle, Shows, ShowsIfOpen, AreOffice, LeavesOnly}
use Rattle.office_store.specs.Shown.{LeavesNoMore, MayLeave}

-- what each call leaves, whatever the connection shows
pub record Leaves {A : Type 0} (old new : State) (result : Result A Fault) : Type 0 where
  -- no transaction is open, and no limit on steps is set
  pub idle : IsIdle new
  -- a disk that is clean was clean before
  pub clean : HasCleanDisk new → HasCleanDisk old
  -- no fault is forgotten, and only a fault of the disk shuts the connection
  pub survives : Survives old new (λ _. Unit {0})
  -- an answer comes of an open connection, which stays open
  pub answered : HasCleanDisk new → OnOk result (IsTrue old.is_open × IsTrue new.is_open)
  -- one that a fault has shut stays shut, and its fault is never `NotAnOffice`
  pub shut : HasCleanDisk new → old.is_open ≡ false
      → (new.is_open ≡ false) × (result ≢ Err NotAnOffice)
  -- a crash leaves the tables that an open connection shows, and no others
  pub settled : (t : Tables) → Shows new t → LeavesOnly new t

-- a read, whose answer is `Found` of the tables
pub record IsRead {A : Type 0} (old new : State) (result : Result A Fault)
    (Found : Tables → A → Type 0) : Type 0 where
  pub leaves : Leaves old new result
  -- the answer is that of the tables that the connection shows
  pub found : (t : Tables) → ShowsIfOpen old t → HasCleanDisk new → IfOk result (Found t)
  -- a read fails for no memory, for the disk, or over a connection that was shut
  pub cause : (t : Tables) → ShowsIfOpen old t → HasCleanDisk new → IfErr result (HasFailed old new)
  -- the connection shows them still, unless a fault of the disk has shut it
  pub shown : (t : Tables) → ShowsIfOpen old t → HasCleanDisk new → ShowsIfOpen new t
  -- whatever it has, it has still
  pub same : old.now ≡ old.committed → HasCleanDisk new → IsAsItWas old new
  -- a crash leaves nothing that it couldn't leave before
  pub crash : LeavesNoMore old new

-- a write, which makes the tables `u` of the tables `t` where `Makes t u`
pub record IsWrite {A : Type 0} (old new : State) (result : Result A Fault)
    (Makes : Tables → Tables → Type 0) : Type 0 where
  pub leaves : Leaves old new result
  -- a write that is done shows the tables that it makes of those that were shown
  pub done : (t u : Tables) → ShowsIfOpen old t → Makes t u → HasCleanDisk new
      → OnOk result (Shows new u)
  -- a write that isn't done shows the old tables, unless a fault of the disk has shut the
  -- connection
  pub undone : (t : Tables) → ShowsIfOpen old t → HasCleanDisk new
      → OnErr result (ShowsIfOpen new t)
  -- a write that isn't done leaves the connection what it had, whatever that is
  pub same : old.now ≡ old.committed → HasCleanDisk new → OnErr result (IsAsItWas old new)
  -- a write never reports the tables as no office's
  pub formed : (t u : Tables) → ShowsIfOpen old t → Makes t u → HasCleanDisk new
      → result ≢ Err NotAnOffice
  -- a crash leaves what it could leave before, or the new tables
  pub crash : (t u : Tables) → ShowsIfOpen old t → Makes t u
      → MayLeave old new (λ trees. AreOffice trees u)
  -- a crash leaves nothing new over a connection that was shut
  pub lost : old.is_open ≡ false → LeavesNoMore old new

-- a change makes the second tables of the first, whatever these are
abbrev pub Into : (Tables → Tables) → Tables → Tables → Type 0
Into change t u = u ≡ change t
