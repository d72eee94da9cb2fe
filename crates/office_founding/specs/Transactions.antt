-- What the transaction of a founding or of a migration does, by what the connection holds before and
-- after.
use Rattle.std.specs.Prelude.{◌≡◌, false, List, Result, IfErr, OnOk, OnErr, IsTrue}
use Rattle.sqlite.specs.Effect.{Database}
use Rattle.sqlite.specs.Held.{Held, state}
use Rattle.sqlite.specs.State.{HasCleanDisk, Survives, Shows as Sees}
use Rattle.sqlite.specs.Store.{Ghosts}
use Rattle.sqlite.specs.declared.error.Error.{Error}
use Rattle.office_words.specs.Tables.{Tables}
use Rattle.office_rows.specs.Queries.{IsAsItWas}
use Rattle.office_rows.specs.Statements.{Statement, begun, RanAll, FailedIn, FailsFor}
use Rattle.office_store.specs.Shown.{Shows, AreOffice, LeavesOnly}

module _ {S : Type 0} (g : Ghosts S) where
  -- where it is done, all the statements have run and are committed
  abbrev pub CommitsAll : (old new : Held S) → List Statement → Result (Unit {0}) Error → Type 0
  CommitsAll old new statements result = HasCleanDisk (state g new)
      → OnOk result (RanAll g statements (begun old) (state g new).now
      × Sees (state g old) (state g new) (state g new).now (state g new).now false)

  -- where it isn't, an open connection is back at the last commit
  abbrev pub RollsBack : (old new : Held S) → Result (Unit {0}) Error → Type 0
  RollsBack old new result = HasCleanDisk (state g new) → IsTrue (state g new).is_open
      → OnErr result ((state g new).now ≡ (state g old).committed
      × (state g new).committed ≡ (state g old).committed)

  -- an error is that of a statement between the two, or of the commit
  abbrev pub FailsWithin : (old new : Held S) → List Statement → Result (Unit {0}) Error → Type 0
  FailsWithin old new statements result =
      HasCleanDisk (state g new) → IfErr result (FailedIn g statements (begun old) new)

  -- a transaction fails for no memory, for the disk, over a connection that was shut, or since
  -- SQLite refuses a statement
  abbrev pub FailsBetween : (old new : Held S) → List Statement → Result (Unit {0}) Error → Type 0
  FailsBetween old new statements result =
      HasCleanDisk (state g new) → IfErr result (FailsFor g statements old new)

  -- a crash leaves nothing new but what all the statements make
  abbrev pub SurvivesAll : (old new : Held S) → List Statement → Type 0
  SurvivesAll old new statements = Survives (state g old) (state g new)
      (λ trees. (db : Database) × RanAll g statements (begun old) db × (trees ≡ db.trees))

  -- where it is done, the connection shows these tables
  abbrev pub ShowsOnOk : {E : Type 0} → Held S → Tables → Result (Unit {0}) E → Type 0
  ShowsOnOk new t result = HasCleanDisk (state g new) → OnOk result (Shows (state g new) t)

  -- a crash leaves these tables and no others, where the transaction is done
  abbrev pub KeepsOnOk : {E : Type 0} → Held S → Tables → Result (Unit {0}) E → Type 0
  KeepsOnOk new t result = HasCleanDisk (state g new) → OnOk result (LeavesOnly (state g new) t)

  -- where it isn't, the connection has what it had
  abbrev pub SameOnErr : {E : Type 0} → (old new : Held S) → Result (Unit {0}) E → Type 0
  SameOnErr old new result =
      (state g old).now ≡ (state g old).committed → HasCleanDisk (state g new)
      → OnErr result (IsAsItWas (state g old) (state g new))

  -- a crash leaves nothing new but these tables
  abbrev pub SurvivesWith : (old new : Held S) → Tables → Type 0
  SurvivesWith old new t = Survives (state g old) (state g new) (λ trees. AreOffice trees t)
