-- Several statements in one transaction.
use Rattle.std.specs.Prelude.{◌≡◌, ◌⊎◌, ◌≤◌, ℕ, true, List, [], ◌∷◌, Ok, Err}
use Rattle.sqlite.specs.declared.error.Error.{Error}
use Rattle.sqlite.specs.declared.error.Error.TheVariants.{SqliteFailure}
use Rattle.sqlite.specs.declared.error.ErrorCode.TheVariants.{TooBig}
use Rattle.sqlite.specs.Store.{Ghosts}
use Rattle.sqlite.specs.Order.{Row}
use Rattle.sqlite.specs.Effect.{Database}
use Rattle.sqlite.specs.State.{ExecutesInside, IsRolledBack, IsUnchanged}
use Rattle.sqlite.specs.Steps.{FailsToCommit}
use Rattle.sqlite.specs.Held.{Held, state}
use Rattle.sqlite.specs.Values.{bound}
use Rattle.office_words.specs.declared.fault.Fault.{Fault}
use Rattle.office_rows.specs.Causes.{HasFailed}
use Rattle.office_rows.specs.Faults.{fault_of_error}
use Rattle.office_rows.specs.declared.transaction.Statement.{Statement as Lent}

pub record Statement : Type 0 where
  pub sql : List ℕ
  pub params : Row

abbrev pub statement_of : Lent → Statement
statement_of s = record { sql = s.sql.now; params = bound s.params.now }

-- a transaction was begun
abbrev pub begun : {S : Type 0} → Held S → Held S
begun h = record h { in_transaction = true }

module _ {S : Type 0} (g : Ghosts S) where
  -- from this connection on, the statements ran in turn and left this database
  abbrev pub RanAll : List Statement → Held S → Database → Type 0
  RanAll [] h db = db ≡ (state g h).now
  RanAll (s ∷ ss) h db =
      (mid : Held S) × (count : ℕ)
      × ExecutesInside 0 s.sql s.params (state g h) (state g mid) (Ok count) × RanAll ss mid db

  -- a transaction that had come to the first was rolled back, which left the second
  pub record IsUndone (mid end : Held S) : Type 0 where
    pub undone : IsRolledBack (state g mid) (state g end)
    -- no fault was forgotten
    pub counts : (state g mid).faults ≤ (state g end).faults

  -- from this connection on, one of the statements failed and all was undone, or the commit after
  -- them failed. That left the second
  abbrev pub FailedIn : List Statement → (h end : Held S) → Error → Type 0
  FailedIn [] h end e = FailsToCommit (state g h) (state g end) e
  FailedIn (s ∷ ss) h end e =
      ((mid : Held S) × ExecutesInside 0 s.sql s.params (state g h) (state g mid) (Err e)
      × IsUndone mid end)
      ⊎ ((mid : Held S) × (count : ℕ)
      × ExecutesInside 0 s.sql s.params (state g h) (state g mid) (Ok count)
      × FailedIn ss mid end e)

  -- a fault is that of a statement of a transaction between the two, or of its commit
  pub record IsCause (statements : List Statement) (old new : Held S) (f : Fault) : Type 0 where
    pub error : Error
    pub failed : FailedIn statements (begun old) new error
    pub fault : f ≡ fault_of_error error

  -- SQLite refuses this statement for what is there, which it leaves, or for a row that is too big
  abbrev pub IsRefused : Statement → Held S → Error → Type 0
  IsRefused s h e =
      (new : Held S) × ExecutesInside 0 s.sql s.params (state g h) (state g new) (Err e)
      × (IsUnchanged (state g h) (state g new) ⊎ (e ≡ SqliteFailure TooBig))

  -- from this connection on, it refuses one of the statements; the limit on steps stays
  abbrev pub RefusedIn : List Statement → Held S → Error → Type 0
  RefusedIn [] h e = ⊥
  RefusedIn (s ∷ ss) h e =
      IsRefused s h e
      ⊎ ((mid : Held S) × (count : ℕ)
      × ExecutesInside 0 s.sql s.params (state g h) (state g mid) (Ok count)
      × ((state g mid).step_limit ≡ (state g h).step_limit) × RefusedIn ss mid e)

  -- a transaction fails for no memory, for the disk, over a connection that was shut, or since
  -- SQLite refuses a statement
  abbrev pub FailsFor : List Statement → (old new : Held S) → Error → Type 0
  FailsFor statements old new e =
      HasFailed (state g old) (state g new) (fault_of_error e) ⊎ RefusedIn statements (begun old) e

  -- SQLite refuses a statement of the transaction with this fault
  pub record Refuses (statements : List Statement) (h : Held S) (f : Fault) : Type 0 where
    pub error : Error
    pub refused : RefusedIn statements (begun h) error
    pub fault : f ≡ fault_of_error error

  -- a transaction met this fault, of one of these causes
  pub record HasMet (statements : List Statement) (old new : Held S) (f : Fault) : Type 0 where
    pub cause : IsCause statements old new f
    pub met : HasFailed (state g old) (state g new) f ⊎ Refuses statements old f
