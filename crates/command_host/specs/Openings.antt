-- What is opened at a path, and why it isn't.
use Rattle.std.specs.Prelude.{◌≡◌, ◌⊎◌, ◌<◌, ℕ, List, true, false, Option, None, Result, Ok, Err}
use Rattle.std.specs.declared.io.Error.{Error as IoError}
use Rattle.sqlite.specs.Held.{Held, state}
use Rattle.sqlite.specs.State.{HasCleanDisk}
use Rattle.sqlite.specs.Store.{Ghosts}
use Rattle.sqlite.specs.declared.error.Error.{Error}
use Rattle.sqlite.specs.declared.error.Error.TheVariants as error
use Rattle.sqlite.specs.declared.error.ErrorCode.TheVariants as code
use Rattle.office_rows.specs.Faults.{fault_of_error}
use Rattle.office_founding.specs.Form.{has_old_tables, TellsOpening}
use Rattle.office_founding.specs.declared.fault.OpeningFault.{OpeningFault}
use Rattle.office_founding.specs.declared.fault.OpeningFault.TheVariants as opening
use Rattle.review_office.specs.Opened.{IsOver}
use Rattle.command_host.specs.declared.fault.CommandFault.{CommandFault}
use Rattle.command_host.specs.declared.fault.CommandFault.TheVariants as fault
use Rattle.office_words.specs.declared.fault.Fault.TheVariants.{Disk, NotAnOffice}
use Rattle.command_host.specs.Marks.{has_journal}
use Rattle.command_host.specs.declared.databases.Databases as databases

-- what is no database is no office, and one that another command has open is busy
abbrev pub fault_of_opening : Error → CommandFault
fault_of_opening (error.SqliteFailure code.NotADatabase) = fault.Store NotAnOffice
fault_of_opening (error.SqliteFailure code.DatabaseBusy) = fault.Busy
fault_of_opening e = fault.Store (fault_of_error e)

-- a database was opened, of which this is known, and then its limit on steps was taken away
abbrev pub IsUnlimited : {S : Type 0} → (Held S → Type 0) → Held S → Type 0
IsUnlimited {S} Opened conn =
    (was : Held S) × Opened was × (conn ≡ record was { step_limit = None })

-- Over a connection there is no office, for this: it has not the tables of one, or it has, and this is
-- what reading them tells.
pub record IsNoOffice {S : Type 0} (g : Ghosts S) (was new : Held S) (why : OpeningFault)
    : Type 0 where
  pub foreign : has_old_tables (state g was).now.schema ≡ false → why ≡ opening.Store NotAnOffice
  pub told : has_old_tables (state g was).now.schema ≡ true → HasCleanDisk (state g new)
      → TellsOpening (state g was) (state g new) (Err why)

-- a database was closed, with a mark or as it was marked, and this is known of it and of what it
-- stands in
abbrev pub IsClosed : {X C : Type 0} → (X → Option ℕ → C → Type 0) → X → Option ℕ → Type 0
IsClosed {C = C} Closed conn mark = (closed : C) × Closed conn mark closed

-- of databases of which this is known
module _ {S D C : Type 0} (d : databases.Ghosts D (Held S) C) where
  -- a database was closed, with a mark or as it was marked, whatever came of that
  abbrev pub IsEnded : Held S → Option ℕ → Type 0
  IsEnded conn mark = (told : Result C Error) × d.ended conn mark told

  module _ (path : List ℕ) where
    -- No database was opened at a path, for this: that failed so, or it has a transaction open as it
    -- is opened, and was closed.
    abbrev pub IsUnopened : CommandFault → Type 0
    IsUnopened why =
        ((error : Error) × d.refused path error × (why ≡ fault_of_opening error))
        ⊎ ((why ≡ fault.Store Disk) × ((conn : Held S) × d.opened path conn × (conn.in_transaction ≡ true)
        × IsEnded conn None))

    -- no database is at a path, for this: it couldn't be seen whether something is there, nothing
    -- is, or what is there wasn't opened
    abbrev pub IsNotThere : CommandFault → Type 0
    IsNotThere why =
        ((why ≡ fault.Store Disk) × ((error : IoError) × d.sees path (Err error)))
        ⊎ ((why ≡ fault.Store NotAnOffice) × d.sees path (Ok false)) ⊎ IsUnopened why

    -- a database was opened at a path, and has this mark
    abbrev pub IsMarked : Held S → ℕ → Type 0
    IsMarked conn mark = IsUnlimited (d.opened path) conn × d.marked path (Ok mark)

    -- a database was opened at a path, and closed again as it was marked
    abbrev pub WasOnlyOpened : Type 0
    WasOnlyOpened = (conn : Held S) × IsUnlimited (d.opened path) conn × IsEnded conn None

    -- no database is at a path; or one was opened there, its mark couldn't be read, and it was closed
    abbrev pub IsNotMarked : CommandFault → Type 0
    IsNotMarked why =
        IsNotThere why
        ⊎ ((why ≡ fault.Store Disk) × ((error : IoError) × d.marked path (Err error))
        × WasOnlyOpened)

    -- the database at a path has no mark that can be read; or it has one, so that a journal is
    -- wanted, and was closed
    abbrev pub IsWithJournal : CommandFault → Type 0
    IsWithJournal why =
        IsNotMarked why
        ⊎ ((why ≡ fault.JournalUnnamed) × ((mark : ℕ) × d.marked path (Ok mark) × (0 < mark))
        × WasOnlyOpened)

    -- the database at a path has no mark that can be read; or it has that of no journal, and was
    -- closed
    abbrev pub IsWithoutJournal : CommandFault → Type 0
    IsWithoutJournal why =
        IsNotMarked why
        ⊎ ((why ≡ fault.JournalParted)
        × ((mark : ℕ) × d.marked path (Ok mark) × (has_journal mark ≡ false)) × WasOnlyOpened)

  -- what was opened is no office of this schema, for this, and was closed
  abbrev pub IsNotOver : Ghosts S → Held S → CommandFault → Type 0
  IsNotOver g was why =
      (told : OpeningFault) × (why ≡ fault.Opening told)
      × ((new : Held S) × IsNoOffice g was new told × IsEnded new None)

  -- no database is at a path; or one was opened there, is no office of this schema, for this, and
  -- was closed
  abbrev pub IsOfOpening : (path : List ℕ) → Ghosts S → CommandFault → Type 0
  IsOfOpening path g why =
      IsNotThere path why
      ⊎ ((was : Held S) × IsUnlimited (d.opened path) was × IsNotOver g was why)

module _ {S : Type 0} (g : Ghosts S) (Opened : Held S → Type 0) where
  -- the office over a database that was opened, of which this is known
  pub record IsOpenedOffice (office : Held S) : Type 0 where
    pub was : Held S
    pub opened : Opened was
    pub over : IsOver g was office

  -- an office was opened, this was done, and it was closed with this mark or as it was marked, of
  -- which this is known
  pub record WasServed (Done : (old new : Held S) → Type 0) (mark : Option ℕ)
      (Closed : Held S → Option ℕ → Type 0) : Type 0 where
    pub old : Held S
    pub new : Held S
    pub office : IsOpenedOffice old
    pub done : Done old new
    pub closed : Closed new mark

-- it failed, for a reason of which this is known
abbrev pub FailsFor : (CommandFault → Type 0) → Result (Unit {0}) CommandFault → Type 0
FailsFor Fails (Ok done) = ⊥
FailsFor Fails (Err why) = Fails why

-- An office was served, and that ended so. Where it stopped for this, the office was closed, whatever
-- came of that. Or all was done, and the office couldn't be closed.
abbrev pub IsServed : {S D C : Type 0} → (d : databases.Ghosts D (Held S) C)
    → (Done : (old new : Held S) → Type 0) → (Stops : CommandFault → (old new : Held S) → Type 0)
    → (mark : Option ℕ) → (old : Held S) → Result (Unit {0}) CommandFault → Type 0
IsServed {S} d Done Stops mark old (Ok done) =
    (new : Held S) × Done old new × IsClosed d.closed new mark
IsServed {S} d Done Stops mark old (Err why) =
    ((new : Held S) × Stops why old new × IsEnded d new mark)
    ⊎ ((why ≡ fault.Close) × ((new : Held S) × Done old new × IsEnded d new mark))

-- the same of an office that was opened, of which this is known
abbrev pub IsServedFrom : {S D C : Type 0} → Ghosts S → (d : databases.Ghosts D (Held S) C)
    → (Opened : Held S → Type 0) → (Done : (old new : Held S) → Type 0)
    → (Stops : CommandFault → (old new : Held S) → Type 0) → (mark : Option ℕ)
    → Result (Unit {0}) CommandFault → Type 0
IsServedFrom g d Opened Done Stops mark (Ok done) =
    WasServed g Opened Done mark (IsClosed d.closed)
IsServedFrom g d Opened Done Stops mark (Err why) =
    WasServed g Opened (Stops why) mark (IsEnded d)
    ⊎ ((why ≡ fault.Close) × WasServed g Opened Done mark (IsEnded d))

-- of serving and then closing the first fault is reported
abbrev pub IsFirstOf : (served closed result : Result (Unit {0}) CommandFault) → Type 0
IsFirstOf (Ok done) closed result = result ≡ closed
IsFirstOf (Err why) closed result = result ≡ Err why
