-- What is kept of the lines of a journal while they are read.
use Rattle.std.specs.Prelude.{◌≡◌, ◌≢◌, ◌⊎◌, ⊤, ◌+◌, ℕ, List, [], ◌∷◌, All, Option, Some, None, Result, Ok, Err}
use Rattle.std.specs.Prelude.{map, option_and_then, option_map}
use Rattle.office_policy.specs.Happened.{event_meant}
use Rattle.office_policy.specs.History.{Event, History}
use Rattle.office_policy.specs.Runs.{with_event}
use Rattle.office_policy.specs.declared.event.Event as values
use Rattle.sealed_log.specs.declared.unreadable.Unreadable.{Unreadable}
use Rattle.sealed_log.specs.declared.unreadable.Unreadable.TheVariants.{NotALine, NoEventBefore, NoMemory}
use Rattle.journal.specs.declared.kept.Kept.{Kept}
use Rattle.journal.specs.declared.writers.Writers.{Writers as TheWriters}
use Rattle.journal.specs.Journal.{IsEntry, Says, taken}
use Rattle.journal.specs.Lines.{Line, text_of}
use Rattle.journal.specs.Forms.{IsFormed}
use Rattle.journal.specs.Reading.{IsOfOther, IsOnEvent, IsTaken, held}
use Rattle.journal.specs.Writers.{Writers, with_writer, writers_meant, writers_of}

-- the events that stand after these lines, behind so many, onto those before, without the one that is
-- held back; and that one
abbrev pub settled_from : ℕ → History → Option Event → List Line → Option (History × Option Event)
settled_from before settled held [] = Some (settled, held)
settled_from before settled held (line ∷ lines) =
    option_and_then
    (λ t. settled_from (before + 1) (with_event t.0 settled) t.1 lines)
    (taken before held line)

-- the bodies are those of lines that can stand in a journal: these events are settled by them, and this
-- one is held back
pub record Settled (bodies : List (List ℕ)) (settled : History) (held : Option Event) : Type 0 where
  pub lines : List Line
  pub entries : All IsEntry lines
  pub are : bodies ≡ map text_of lines
  pub by : settled_from 0 [] None lines ≡ Some (settled, held)

-- the writers are those of what the bodies settle, and this event is held back
pub record IsKept (bodies : List (List ℕ)) (writers : Writers) (held : Option Event) : Type 0 where
  pub settled : History
  pub says : Settled bodies settled held
  pub writers_are : writers ≡ writers_of settled

-- no history is said
abbrev pub SaysNone : List (List ℕ) → Type 0
SaysNone bodies = (h : History) → Says bodies h → ⊥

-- why a line can't stand where it does
abbrev pub IsFaulty : List (List ℕ) → Unreadable → Type 0
IsFaulty bodies NotALine = SaysNone bodies
IsFaulty bodies NoEventBefore = SaysNone bodies
IsFaulty bodies (NoMemory _) = Unit {0}
IsFaulty bodies why = ⊥

-- the writers, and behind them an event where one stands
abbrev pub with_stood : Option Event → Writers → Writers
with_stood None w = w
with_stood (Some e) w = with_writer e w

-- A line is taken, and the event that stands by it is a writer; or it can't stand there. There may be no
-- memory.
abbrev pub TakesBody : ℕ → List ℕ → Kept → Kept → Result ⊤ Unreadable → Type 0
TakesBody before body old new (Ok done) =
    (stands : Option Event) × IsTaken before (held old.reader) (held new.reader) body stands
    × (writers_meant new.settled ≡ with_stood stands (writers_meant old.settled))
TakesBody before body old new (Err NotALine) =
    ((line : Line) → IsFormed line → body ≢ text_of line) ⊎ IsOfOther before body
TakesBody before body old new (Err NoEventBefore) = IsOnEvent body × (held old.reader ≡ None)
TakesBody before body old new (Err (NoMemory _)) = Unit {0}
TakesBody before body old new (Err why) = ⊥

abbrev pub keeps_by : Option Unreadable → List (List ℕ) → Kept → Type 0
keeps_by None bodies k = IsKept bodies (writers_meant k.settled) (held k.reader)
keeps_by (Some fault) bodies k = IsFaulty bodies fault

-- what is kept of bodies: the writers and the event that is held back, or the fault of a line
abbrev pub keeps : List (List ℕ) → Kept → Type 0
keeps bodies k = keeps_by k.fault bodies k

-- what is told of bodies in the end: the writers and the event that is held back, or the fault of a line
abbrev pub EndsAs : List (List ℕ) → Result (TheWriters × Option values.Event) Unreadable → Type 0
EndsAs bodies (Ok (writers, event)) =
    IsKept bodies (writers_meant writers) (option_map event_meant event)
EndsAs bodies (Err fault) = IsFaulty bodies fault
