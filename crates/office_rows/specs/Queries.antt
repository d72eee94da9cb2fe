-- A text that is a query whatever the schema, and what it leaves of any connection.
use Rattle.std.specs.Prelude.{◌≡◌, ◌≢◌, ℕ, false, List, None, Ok, Err, Result, OnOk, IsTrue}
use Rattle.sqlite.specs.Schema.{Schema}
use Rattle.sqlite.specs.State.{State, HasCleanDisk, Survives}
use Rattle.sqlite.specs.Listing.{understood}
use Rattle.sqlite_resolve.specs.declared.compiled.Compiled.{Compiled}
use Rattle.office_words.specs.declared.fault.Fault.{Fault}
use Rattle.office_words.specs.declared.fault.Fault.TheVariants.{NotAnOffice}

-- a text is no write with RETURNING, whatever the schema
abbrev pub IsQuery : List ℕ → Type 0
IsQuery sql = (schema : Schema) (c : Compiled) → understood schema sql ≡ Ok c → c.returning ≡ None

-- the connection has what it had, unless a fault of the disk has shut it
abbrev pub IsAsItWas : State → State → Type 0
IsAsItWas old new = IsTrue new.is_open → (new.now ≡ old.now) × (new.committed ≡ old.committed)

-- what a query leaves, whatever it answers
pub record IsAsked {A : Type 0} (old new : State) (result : Result A Fault) : Type 0 where
  -- an answer comes of an open connection, which stays open
  pub answered : HasCleanDisk new → OnOk result (IsTrue old.is_open × IsTrue new.is_open)
  -- one that a fault has shut stays shut, and its fault is never `NotAnOffice`
  pub shut : HasCleanDisk new → old.is_open ≡ false
      → (new.is_open ≡ false) × (result ≢ Err NotAnOffice)
  -- outside a transaction nothing is changed
  pub same : old.now ≡ old.committed → HasCleanDisk new → IsAsItWas old new
  -- a crash leaves nothing that it couldn't leave before
  pub crash : Survives old new (λ _. ⊥)
