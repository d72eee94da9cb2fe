-- An office that is kept with a journal: how that is begun, and how the office is opened with it.
use Rattle.std.specs.Prelude.{◌≡◌, ◌⊎◌, ◌-◌, ◌^◌, ℕ, min, List, [], ◌∷◌, Option, Some, None, Result}
use Rattle.std.specs.Prelude.{Ok, Err, ⊤, Bool, ◌==◌, ◌&&◌, if◌then◌else◌, not, IsTrue, true, false}
use Rattle.std.specs.declared.io.Error.{Error}
use Rattle.sqlite.specs.Held.{Held}
use Rattle.sqlite.specs.Store.{Ghosts}
use Rattle.sqlite_disk.specs.declared.Disk.{Ghosts as DiskGhosts}
use Rattle.sealed_log.specs.Faults.{IsLater}
use Rattle.sealed_log.specs.Log.{bodies_of}
use Rattle.sealed_log.specs.declared.log.SealedLog.{SealedLog}
use Rattle.journal.specs.Journal.{Says}
use Rattle.journal.specs.Lines.{happened, text_of}
use Rattle.office_policy.specs.Meaning.{Meaning}
use Rattle.review_office.specs.Meant.{meaning_over}
use Rattle.review_office.specs.Opened.{IsOver}
use Rattle.office_policy.specs.EventForms.{HasForms}
use Rattle.journal.specs.Journals.{IsSettled, journaled}
use Rattle.journal.specs.Logs.{in_log}
use Rattle.journal.specs.declared.journaled.Journaled.{Journaled}
use Rattle.journal_office.specs.Opening.{IsHandedBack, IsReopened}
use Rattle.office_words.specs.declared.fault.Fault.{Fault}
use Rattle.command_host.specs.declared.fault.CommandFault.{CommandFault}
use Rattle.command_host.specs.declared.fault.CommandFault.TheVariants as fault
use Rattle.changing_commands.specs.declared.founding.Founding.{Founding}
use Rattle.command_host.specs.declared.no_file.NoFile.{NoFile}
use Rattle.changing_commands.specs.Foundings.{founding_event, history_of, Described}
use Rattle.changing_commands.specs.Foundings.{IsFoundedIn, IsUndescribed, IsUnfoundedAs}
use Rattle.command_host.specs.NoFiles.{file_fault}
use Rattle.command_host.specs.Marks.{mark_of_lines}
use Rattle.command_host.specs.Openings.{IsClosed, IsEnded, IsNotOver, IsOfOpening, IsOpenedOffice}
use Rattle.command_host.specs.declared.databases.Databases as databases
use Rattle.no_memory.specs.Witness.{witness}

-- the one holds without a journal, the other with a journal at a path
abbrev pub IfJournaled : Option (List ℕ) → (Without : Type 0) → (With : List ℕ → Type 0) → Type 0
IfJournaled None Without With = Without
IfJournaled (Some path) Without With = With path

-- what is meant by an office over a store that has a journal in a file
abbrev pub journaled_over : {S L : Type 0} (g : Ghosts S) (f : DiskGhosts L)
    → Meaning (Journaled (Held S) (SealedLog L f))
journaled_over g f = journaled (meaning_over g) (in_log f)

-- the mark that is set beside a journal: that of its lines, where it is open
abbrev pub mark_beside : {L : Type 0} {f : DiskGhosts L} → SealedLog L f → Option ℕ
mark_beside log = if log.is_open then Some (mark_of_lines log.lines) else None

-- a file was removed, of which this is known, whatever came of that
abbrev pub IsRemoved : {L : Type 0} → (L → Result ⊤ Error → Type 0) → L → Type 0
IsRemoved Removed file = (told : Result ⊤ Error) × Removed file told

-- the line of a founding
abbrev pub line_of : Founding → List ℕ
line_of founding = text_of (happened (founding_event founding))

-- a log is open, so that a crash leaves its lines, and has just that
abbrev pub HasLine : {L : Type 0} (f : DiskGhosts L) → Founding → SealedLog L f → Type 0
HasLine f founding log =
    (log.is_open ≡ true)
    × (IsTrue (f.is_clean log.disk) → bodies_of f log ≡ line_of founding ∷ [])

-- A file was made, of which this is known, and then has just the line of a founding, which a crash
-- leaves. It is the journal of the history that is just this founding.
pub record IsBegunBy {L : Type 0} (f : DiskGhosts L) (Created : Result L NoFile → Type 0)
    (founding : Founding) (log : SealedLog L f) : Type 0 where
  pub made : L
  pub created : Created (Ok made)
  -- the log is in that file: it is clean only where that was, and no fault is forgotten
  pub clean : IsTrue (f.is_clean log.disk) → IsTrue (f.is_clean made)
  pub counts : IsLater f made log.disk
  pub forms : HasForms (founding_event founding)
  pub line : HasLine f founding log
  pub says : IsTrue (f.is_clean log.disk) → Says (bodies_of f log) (history_of founding)

-- no file was made; or one was, and that very file, as it is later, was removed since the line couldn't
-- be written
abbrev pub IsUnbegun : {L : Type 0} (f : DiskGhosts L) (Created : Result L NoFile → Type 0)
    (Removed : L → Result ⊤ Error → Type 0) → CommandFault → Type 0
IsUnbegun {L} f Created Removed why =
    ((e : NoFile) × Created (Err e) × (why ≡ file_fault e))
    ⊎ ((why ≡ fault.Journal) × ((made left : L) × Created (Ok made) × IsLater f made left
    × IsRemoved Removed left))

-- an office with the journal that was begun for it
abbrev pub begun_with : {S L : Type 0} {f : DiskGhosts L} → Held S → SealedLog L f
    → Journaled (Held S) (SealedLog L f)
begun_with office log =
    record { office = office; journal = log; has_stray = false; is_settled = false }

-- An office with a journal was closed, of which this is known. Before, its last event was settled,
-- where that could be. The database got the mark of the journal.
pub record IsClosedKept {S L : Type 0} (g : Ghosts S) (f : DiskGhosts L)
    (Closed : Held S → Option ℕ → Type 0) (x : Journaled (Held S) (SealedLog L f)) : Type 0 where
  pub last : Journaled (Held S) (SealedLog L f)
  pub came : Result ⊤ Fault
  pub settled : IsSettled (meaning_over g) (in_log f) x last came
  pub closed : Closed last.office (mark_beside last.journal)

module _ {S L : Type 0} (g : Ghosts S) (f : DiskGhosts L) (Created : Result L NoFile → Type 0) where
  -- a journal was begun by a founding, and then its office was founded and closed with it
  pub record WasFoundedBehind (Opened : Held S → Type 0) (Closed : Held S → Option ℕ → Type 0)
      (founding : Founding) : Type 0 where
    pub log : SealedLog L f
    pub journal : IsBegunBy f Created founding log
    pub office : Held S
    pub founded : IsFoundedIn g Opened (Ok founding) office
    pub ended : IsClosedKept g f Closed (begun_with office log)

  -- a journal was begun by the founding that words describe, and then its office was founded and closed
  -- with it
  pub record WasFoundedWith (Opened : Held S → Type 0) (Closed : Held S → Option ℕ → Type 0)
      (described : Described) : Type 0 where
    pub founding : Founding
    pub is : described ≡ Ok founding
    pub founded : WasFoundedBehind Opened Closed founding

  module _ {D C : Type 0} (Removed : L → Result ⊤ Error → Type 0)
      (d : databases.Ghosts D (Held S) C) (path : List ℕ) where
    -- a journal was begun by a founding, and then nothing was founded for this, and its file was
    -- removed; or its office was founded, and couldn't be closed
    pub record IsUnfoundedThen (founding : Founding) (why : CommandFault) : Type 0 where
      pub log : SealedLog L f
      pub journal : IsBegunBy f Created founding log
      pub office : (IsUnfoundedAs g d path (Ok founding) why × IsRemoved Removed log.disk)
          ⊎ ((why ≡ fault.Close) × ((office : Held S)
          × IsFoundedIn g (d.opened path) (Ok founding) office
          × IsClosedKept g f (IsEnded d) (begun_with office log)))

    -- no journal was begun by a founding; or one was, and nothing was founded, or the office couldn't
    -- be closed
    abbrev pub IsUnfoundedBehind : Founding → CommandFault → Type 0
    IsUnfoundedBehind founding why = IsUnbegun f Created Removed why ⊎ IsUnfoundedThen founding why

    -- words describe no founding; or they describe one, and there was no memory for its line, or no
    -- office was founded by it and closed with a journal
    abbrev pub IsUnfoundedWith : Described → CommandFault → Type 0
    IsUnfoundedWith described why =
        IsUndescribed described why
        ⊎ ((founding : Founding) × (described ≡ Ok founding)
        × ((why ≡ fault.NoMemory witness) ⊎ IsUnfoundedBehind founding why))

module _ {S L : Type 0} (g : Ghosts S) (f : DiskGhosts L)
    (Found : Result L NoFile → Type 0) where
  -- a file was opened, of which this is known, and an office of this mark was opened again with the
  -- log in it
  pub record IsOpenedWith (mark : ℕ) (old : Held S) (x : Journaled (Held S) (SealedLog L f))
      : Type 0 where
    pub log : SealedLog L f
    pub found : Found (Ok log.disk)
    pub again : IsReopened g f mark old log x

  -- why an office has no journal: none can be opened, or the office wasn't opened again with it
  abbrev pub IsOfJournal : (mark : ℕ) → (old new : Held S) → CommandFault → Type 0
  IsOfJournal mark old new (fault.Reopening why) =
      (log after : SealedLog L f) × Found (Ok log.disk)
      × IsHandedBack g f mark old log why new after
  IsOfJournal mark old new why =
      (e : NoFile) × Found (Err e) × (why ≡ file_fault e) × (new ≡ old)

  -- the office over a connection was opened again so
  pub record IsKeptOver (conn : Held S) (mark : ℕ) (x : Journaled (Held S) (SealedLog L f))
      : Type 0 where
    pub office : Held S
    pub over : IsOver g conn office
    pub journal : IsOpenedWith mark office x

  -- no office is over a connection; or one is, has no journal for this, and was closed
  abbrev pub IsUnkeptOver : {D C : Type 0} → databases.Ghosts D (Held S) C → (conn : Held S)
      → (mark : ℕ) → CommandFault → Type 0
  IsUnkeptOver d conn mark why =
      IsNotOver d g conn why
      ⊎ ((old new : Held S) × IsOver g conn old × IsOfJournal mark old new why
      × IsEnded d new None)

  module _ (Opened : Held S → Type 0) (mark : ℕ) where
    -- the office over a database that was opened, of which this is known, was opened again so
    pub record IsKeptOffice (x : Journaled (Held S) (SealedLog L f)) : Type 0 where
      pub was : Held S
      pub office : IsOpenedOffice g Opened was
      pub journal : IsOpenedWith mark was x

    -- an office was opened again with its journal, this was done with it, and both were closed, of
    -- which this is known
    pub record WasKept (Done : (old new : Journaled (Held S) (SealedLog L f)) → Type 0)
        (Closed : Held S → Option ℕ → Type 0) : Type 0 where
      pub old : Journaled (Held S) (SealedLog L f)
      pub new : Journaled (Held S) (SealedLog L f)
      pub office : IsKeptOffice old
      pub done : Done old new
      pub ended : IsClosedKept g f Closed new

    -- an office was opened, has no journal for this, and was closed as it was marked, of which this is
    -- known
    pub record WasNotKept (Closed : Held S → Option ℕ → Type 0) (why : CommandFault)
        : Type 0 where
      pub old : Held S
      pub new : Held S
      pub office : IsOpenedOffice g Opened old
      pub none : IsOfJournal mark old new why
      pub closed : Closed new None

  -- of databases of which this is known, and the one at a path that has this mark
  module _ {D C : Type 0} (d : databases.Ghosts D (Held S) C) (path : List ℕ) (mark : ℕ) where
    -- no office with its journal is there: none, or one without, which was closed, whatever came
    -- of that
    abbrev pub IsUnkept : CommandFault → Type 0
    IsUnkept why = IsOfOpening d path g why ⊎ WasNotKept (d.opened path) mark (IsEnded d) why

    -- An office was served with its journal, and that ended so. Where it stopped for this, the office
    -- was closed, whatever came of that. Or all was done, and the office couldn't be closed.
    abbrev pub IsServedWith : (Done : (old new : Journaled (Held S) (SealedLog L f)) → Type 0)
        → (Stops : CommandFault → (old new : Journaled (Held S) (SealedLog L f)) → Type 0)
        → Result (Unit {0}) CommandFault → Type 0
    IsServedWith Done Stops (Ok done) =
        WasKept (d.opened path) mark Done (IsClosed d.closed)
    IsServedWith Done Stops (Err why) =
        WasKept (d.opened path) mark (Stops why) (IsEnded d)
        ⊎ ((why ≡ fault.Close) × WasKept (d.opened path) mark Done (IsEnded d))
