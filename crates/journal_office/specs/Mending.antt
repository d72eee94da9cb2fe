-- What a crash left of a journal, and was made the journal of its office.
use Rattle.std.specs.Prelude.{◌≡◌, ◌≢◌, ◌⊎◌, ◌≤◌, ◌<◌, [], ◌∷◌, ◌++◌, ℕ, List, length, Bool, false}
use Rattle.std.specs.Prelude.{true, Option, Some, None, Result, Ok, Err, ⊤, OnOk, IfOk, IfErr, IsTrue}
use Rattle.sqlite_disk.specs.declared.Disk.{Ghosts}
use Rattle.office_words.specs.declared.fault.Fault.{Fault}
use Rattle.sealed_log.specs.Disks.{LeavesTail}
use Rattle.sealed_log.specs.Log.{bodies_of}
use Rattle.sealed_log.specs.Sealed.{longest, sealed_text}
use Rattle.sealed_log.specs.Told.{HasMore}
use Rattle.sealed_log.specs.declared.log.SealedLog.{SealedLog}
use Rattle.office_policy.specs.History.{Event, History}
use Rattle.office_policy.specs.Handled.{Stands}
use Rattle.office_policy.specs.Judging.{LeavesAll}
use Rattle.office_policy.specs.Lawful.{IsAllowed, IsLawfulHistory}
use Rattle.office_policy.specs.Meaning.{Meaning}
use Rattle.office_policy.specs.ShowsEvent.{Shows}
use Rattle.office_policy.specs.TablesOf.{tables_of}
use Rattle.office_words.specs.Tables.{Tables}
use Rattle.review_office.specs.Looking.{IsMetBetween}
use Rattle.office_policy.specs.EventForms.{HasForms}
use Rattle.journal.specs.Journal.{EndsWithEvent, Says}
use Rattle.journal.specs.Lines.{strike, text_of}
use Rattle.journal.specs.Begun.{with_event}
use Rattle.journal.specs.Kept.{SaysNone, Settled, with_stood}
use Rattle.journal.specs.Writers.{ShowsWriters, Writers, with_writer, writers_of}
use Rattle.journal_office.specs.declared.mending.Last.{Last}
use Rattle.journal_office.specs.declared.mending.Last.TheVariants as last
use Rattle.journal_faults.specs.declared.not_reopened.NotReopened.{NotReopened}
use Rattle.journal_faults.specs.declared.not_reopened.NotReopened.TheVariants.{Unsealed, NotALine}
use Rattle.journal_faults.specs.declared.not_reopened.NotReopened.TheVariants.{Changed, OtherJournal}
use Rattle.journal_faults.specs.declared.not_reopened.NotReopened.TheVariants.{Office, Log, NoMemory}
use Rattle.journal_office.specs.Faults.{HasFileCause, IsOutside, IsRefusal}

-- the history, or it with an event that the policy allows then; its tables are the same
pub record HasTablesOf (h now : History) : Type 0 where
  pub grown : (now ≡ h) ⊎ ((event : Event) × (now ≡ event ∷ h) × IsAllowed h event)
  pub tables : tables_of now ≡ tables_of h

-- the bodies say such a history
pub record SaysNow (h : History) (bodies : List (List ℕ)) : Type 0 where
  pub now : History
  pub tables : HasTablesOf h now
  pub says : Says bodies now

-- the bodies say the history, and behind that one event more, which the policy allows then
pub record IsOneMore (h : History) (bodies : List (List ℕ)) (e : Event) : Type 0 where
  pub before : List (List ℕ)
  pub says : Says before h
  pub allowed : IsAllowed h e
  pub forms : HasForms e
  pub is : bodies ≡ with_event before e

-- the bodies say the history, or that and one event more
abbrev pub TellsOf : History → List (List ℕ) → Type 0
TellsOf h bodies = Says bodies h ⊎ ((e : Event) × IsOneMore h bodies e)

-- the bodies are those of a journal, and behind them stands nothing more, or the line that strikes out
-- the last
pub record IsMended (old new : List (List ℕ)) : Type 0 where
  pub was : History
  pub says : Says old was
  pub is : (new ≡ old) ⊎ (new ≡ old ++ text_of strike ∷ [])

-- the bodies say a history, whose writers the tables show neither with the event that is held back nor
-- without it
pub record IsOthers (t : Tables) (bodies : List (List ℕ)) : Type 0 where
  pub settled : History
  pub held : Option Event
  pub says : Settled bodies settled held
  pub without : ShowsWriters t (writers_of settled) → ⊥
  pub with_it : ShowsWriters t (with_stood held (writers_of settled)) → ⊥

-- the mark of the tables is above the number of the bodies, or these are another's
abbrev pub SaysOther : (mark : ℕ) → History → List (List ℕ) → Type 0
SaysOther mark h bodies = (length bodies < mark) ⊎ IsOthers (tables_of h) bodies

module _ {X : Type 0} (m : Meaning X) where
  -- a fact holds of the tables
  abbrev pub Holds : (old new : X) → (Tables → Type 0) → Type 0
  Holds old new P = (h : History) → m.is_of h old → m.is_clean new → P (tables_of h)

  -- an office stands where it stood before
  abbrev pub Stays : (old new : X) → Type 0
  Stays old new = (h : History) → Stands m h old → m.is_clean new → Stands m h new

  -- a fault that the office met
  abbrev pub IsMet : (old new : X) → Fault → Type 0
  IsMet old new fault = (h : History) → m.is_of h old → m.is_clean new → IsMetBetween m old new fault

  -- the tables were asked whether this holds of them: it does, or it doesn't, or the office failed
  abbrev pub LooksFor : (old new : X) → (Tables → Type 0) → Result ⊤ NotReopened → Type 0
  LooksFor old new P (Ok _) = Holds old new P × Stays old new
  LooksFor old new P (Err OtherJournal) = Holds old new (λ t. P t → ⊥)
  LooksFor old new P (Err (Office fault)) = IsMet old new fault
  LooksFor old new P (Err Unsealed) = ⊥
  LooksFor old new P (Err NotALine) = ⊥
  LooksFor old new P (Err (Changed at)) = ⊥
  LooksFor old new P (Err Log) = ⊥
  LooksFor old new P (Err (NoMemory _)) = ⊥

  -- the tables show the event that is held back, and it is one of the writers then; or they don't; or
  -- none is held back
  abbrev pub IsLastOf : (old new : X) → (before after : Writers) → Option Event → Last → Type 0
  IsLastOf old new before after (Some e) last.Shown =
      Holds old new (λ t. Shows t e) × (after ≡ with_writer e before)
  IsLastOf old new before after (Some e) last.Unshown =
      Holds old new (λ t. Shows t e → ⊥) × (after ≡ before)
  IsLastOf old new before after (Some e) last.Settled = ⊥
  IsLastOf old new before after None last.Shown = ⊥
  IsLastOf old new before after None last.Unshown = ⊥
  IsLastOf old new before after None last.Settled = after ≡ before

  -- the tables were asked for it, or memory or the office failed
  abbrev pub LooksAt : (old new : X) → (before after : Writers) → Option Event
      → Result Last NotReopened → Type 0
  LooksAt old new before after event (Ok answer) =
      IsLastOf old new before after event answer × Stays old new
  LooksAt old new before after event (Err OtherJournal) = ⊥
  LooksAt old new before after event (Err (Office fault)) = IsMet old new fault
  LooksAt old new before after event (Err Unsealed) = ⊥
  LooksAt old new before after event (Err NotALine) = ⊥
  LooksAt old new before after event (Err (Changed at)) = ⊥
  LooksAt old new before after event (Err Log) = ⊥
  LooksAt old new before after event (Err (NoMemory _)) = Unit {0}

  -- the answer is that of the event that is held back, and the tables show all writers
  pub record IsAnswer (old new : X) (writers : Writers) (event : Option Event) (answer : Last)
      : Type 0 where
    pub after : Writers
    pub last : IsLastOf old new writers after event answer
    pub shows : Holds old new (λ t. ShowsWriters t after)
    pub stays : Stays old new

  -- the tables were asked so; or they show neither these writers, nor those with the event; or
  -- memory or the office failed
  abbrev pub Asks : (old new : X) → Writers → Option Event → Result Last NotReopened → Type 0
  Asks old new writers event (Ok answer) = IsAnswer old new writers event answer
  Asks old new writers event (Err OtherJournal) =
      Holds old new (λ t. ShowsWriters t writers → ⊥)
      × Holds old new (λ t. ShowsWriters t (with_stood event writers) → ⊥)
  Asks old new writers event (Err (Office fault)) = IsMet old new fault
  Asks old new writers event (Err Unsealed) = ⊥
  Asks old new writers event (Err NotALine) = ⊥
  Asks old new writers event (Err (Changed at)) = ⊥
  Asks old new writers event (Err Log) = ⊥
  Asks old new writers event (Err (NoMemory _)) = Unit {0}

  -- a fault of the office has a cause
  abbrev pub HasOfficeCause : (old new : X) → NotReopened → Type 0
  HasOfficeCause old new (Office fault) = IsMetBetween m old new fault
  HasOfficeCause old new why = Unit {0}

-- the line that strikes out stands behind all that was there; where that failed a part of it may
pub record IsStruckOut {D : Type 0} (g : Ghosts D) (old new : SealedLog D g)
    (result : Result ⊤ NotReopened) : Type 0 where
  pub clean : IsTrue (g.is_clean new.disk) → IsTrue (g.is_clean old.disk)
  pub opened : OnOk result (new.is_open ≡ true)
  pub bodies : IsTrue (g.is_clean new.disk)
      → OnOk result (bodies_of g new ≡ bodies_of g old ++ text_of strike ∷ [])
  pub why : IfErr result IsOutside
  pub word : old.is_open ≡ true → IsTrue (g.is_clean new.disk)
      → IfErr result (HasFileCause g old.disk new.disk)
  pub crash : old.is_open ≡ true → IsTrue (g.is_clean new.disk)
      → LeavesTail g new.disk (sealed_text (bodies_of g old)) longest

-- what a crash left of a journal was made the journal of its office, whose tables have this mark, or
-- wasn't
pub record Mends {X D : Type 0} (m : Meaning X) (g : Ghosts D) (mark : ℕ) (old new : X)
    (before after : SealedLog D g) (result : Result Bool NotReopened) : Type 0 where
  -- nothing of the office was changed, and it stands as it did
  pub leaves : LeavesAll m old new
  pub stands : (h : History) → Stands m h old → m.is_clean new → OnOk result (Stands m h new)
  pub clean : IsTrue (g.is_clean after.disk) → IsTrue (g.is_clean before.disk)
  -- the log is open, and mended
  pub opened : OnOk result (after.is_open ≡ true)
  pub bodies : IsTrue (g.is_clean after.disk)
      → OnOk result (IsMended (bodies_of g before) (bodies_of g after))
  -- the log says a history of the tables, where it told what a crash may leave
  pub journal : IsTrue (g.is_clean after.disk) → (h : History) → m.is_of h old
      → TellsOf h (bodies_of g before) → m.is_clean new → OnOk result (SaysNow h (bodies_of g after))
  -- where the event of its last line is said not to be settled, the last line has it
  pub ends : IsTrue (g.is_clean after.disk)
      → IfOk result (λ settled. settled ≡ false → EndsWithEvent (bodies_of g after))
  -- the log has as many lines as the mark at least
  pub marked : IsTrue (g.is_clean after.disk) → OnOk result (mark ≤ length (bodies_of g before))
  -- the answer that no line is sealed comes only where none is
  pub unsealed : IsTrue (g.is_clean after.disk)
      → IfErr result (λ why. why ≡ Unsealed → bodies_of g before ≡ [])
  -- the answer that the file was changed comes only where more than a line stands behind what is
  -- sealed
  pub changed : IsTrue (g.is_clean after.disk) → IfErr result (λ why. (at : ℕ) → why ≡ Changed at
      → HasMore (g.seen before.disk) × (at ≡ length (sealed_text (bodies_of g before))))
  -- the log is mended only where no more than a line stands behind what is sealed
  pub whole : IsTrue (g.is_clean after.disk) → OnOk result (HasMore (g.seen before.disk) → ⊥)
  -- the answer that the file is no journal comes only where its bodies say no history
  pub no_line : IsTrue (g.is_clean after.disk)
      → IfErr result (λ why. why ≡ NotALine → SaysNone (bodies_of g before))
  -- neither of the answers `Unsealed` and `NotALine` comes where the journal told what a crash may
  -- leave
  pub line : IsTrue (g.is_clean after.disk) → (h : History) → IsLawfulHistory h
      → TellsOf h (bodies_of g before)
      → IfErr result (λ why. (why ≢ NotALine) × (why ≢ Unsealed))
  -- the answer that the journal is another's comes only where the mark or the tables say so
  pub other : IsTrue (g.is_clean after.disk) → (h : History) → m.is_of h old → m.is_clean new
      → IfErr result (λ why. why ≡ OtherJournal → SaysOther mark h (bodies_of g before))
  -- the log is mended only where neither the mark nor the tables say that it is another's
  pub ours : IsTrue (g.is_clean after.disk) → (h : History) → m.is_of h old → m.is_clean new
      → OnOk result (SaysOther mark h (bodies_of g before) → ⊥)
  -- a file that is no journal, another's, or was changed, is left as it is
  pub untouched : IfErr result (λ why. IsRefusal why → g.seen after.disk ≡ g.seen before.disk)
  -- a fault of the office has a cause, and so has one of the file
  pub cause : (h : History) → m.is_of h old → m.is_clean new
      → IfErr result (HasOfficeCause m old new)
  pub word : IsTrue (g.is_clean after.disk)
      → IfErr result (HasFileCause g before.disk after.disk)
  -- a crash on the way leaves what was told, and no more behind it than the longest line, where one
  -- did before
  pub crash : IsTrue (g.is_clean after.disk)
      → LeavesTail g before.disk (sealed_text (bodies_of g before)) longest
      → LeavesTail g after.disk (sealed_text (bodies_of g before)) longest
