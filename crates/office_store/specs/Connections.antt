-- What a call of a store does, by what the connection holds before and after.
use Rattle.std.specs.Prelude.{◌≡◌, ◌≢◌, List, ℕ, Option, Result, Err, IfErr}
use Rattle.sqlite.specs.Held.{Held, state}
use Rattle.sqlite.specs.Order.{Row}
use Rattle.sqlite.specs.State.{HasCleanDisk}
use Rattle.sqlite.specs.Store.{Ghosts}
use Rattle.office_words.specs.declared.fault.Fault.{Fault}
use Rattle.office_words.specs.declared.fault.Fault.TheVariants.{NotAnOffice}
use Rattle.office_words.specs.Tables.{Tables}
use Rattle.office_rows.specs.Faults.{FindsRow}
use Rattle.office_rows.specs.Statements.{Statement, HasMet}
use Rattle.office_rows.specs.Told.{FindsRows, TellsRow, TellsRows}
use Rattle.office_store.specs.Calls.{IsRead, IsWrite}

-- a row of a value that is of its form is never refused as no office's
abbrev pub AcceptsFormed : {X R A : Type 0} → (X → R) → (X → Type 0) → R
    → Result A Fault → Type 0
AcceptsFormed {X} encode IsFormed row result =
    (x : X) → IsFormed x → row ≡ encode x → result ≢ Err NotAnOffice

module _ {S : Type 0} (g : Ghosts S) where
  -- a read, whose answer is `Found` of the tables
  abbrev pub Reads : {A : Type 0} → (old new : Held S) → Result A Fault
      → (Tables → A → Type 0) → Type 0
  Reads old new result Found = IsRead (state g old) (state g new) result Found

  -- the first row that the query finds, where the disk is clean
  abbrev pub FindsFirst : (old new : Held S) → List ℕ → Row
      → Result (Option Row) Fault → Type 0
  FindsFirst old new sql params result =
      HasCleanDisk (state g new) → FindsRow sql params (state g old) (state g new) result

  -- all the rows that it finds
  abbrev pub FindsAll : (old new : Held S) → List ℕ → Row → Result (List Row) Fault → Type 0
  FindsAll old new sql params result =
      HasCleanDisk (state g new) → FindsRows sql params (state g old) (state g new) result

  -- what is read of the first row that the query finds
  abbrev pub ReadsFirst : {A : Type 0} → (old new : Held S) → List ℕ → Row
      → (Option Row → Result A Fault → Type 0) → Result A Fault → Type 0
  ReadsFirst old new sql params Reading result =
      HasCleanDisk (state g new) → TellsRow sql params (state g old) (state g new) Reading result

  -- what is read of all the rows that it finds
  abbrev pub ReadsAll : {A : Type 0} → (old new : Held S) → List ℕ → Row
      → (List Row → Result A Fault → Type 0) → Result A Fault → Type 0
  ReadsAll old new sql params Reading result =
      HasCleanDisk (state g new) → TellsRows sql params (state g old) (state g new) Reading result

  -- a write, which makes the second tables of the first where `Makes` says so
  abbrev pub Writes : {A : Type 0} → (old new : Held S) → Result A Fault
      → (Tables → Tables → Type 0) → Type 0
  Writes old new result Makes = IsWrite (state g old) (state g new) result Makes

  -- a call's fault is one that the transaction of these statements met
  abbrev pub MeetsOnErr : {A : Type 0} → (old new : Held S) → List Statement
      → Result A Fault → Type 0
  MeetsOnErr old new statements result =
      HasCleanDisk (state g new) → IfErr result (HasMet g statements old new)
