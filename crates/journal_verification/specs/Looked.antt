-- What looking at a connection leaves of it.
use Rattle.std.specs.Prelude.{◌≡◌, false}
use Rattle.sqlite.specs.State.{State, HasCleanDisk, Survives}
use Rattle.office_rows.specs.Queries.{IsAsItWas}
use Rattle.office_store.specs.Shown.{IsIdle}

-- nothing was changed
pub record HasLooked (old new : State) : Type 0 where
  pub idle : IsIdle new
  -- a disk that is clean was clean before
  pub clean : HasCleanDisk new → HasCleanDisk old
  -- the connection has what it had, unless a fault of the disk has shut it
  pub same : old.now ≡ old.committed → HasCleanDisk new → IsAsItWas old new
  -- one that was shut stays shut
  pub shut : HasCleanDisk new → old.is_open ≡ false → new.is_open ≡ false
  -- no fault is forgotten, and a crash leaves nothing that it couldn't leave before
  pub survives : Survives old new (λ _. ⊥)
