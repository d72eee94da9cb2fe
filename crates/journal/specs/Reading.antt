-- What a reader of a journal takes of a line.
use Rattle.std.specs.Prelude.{◌≡◌, ◌≢◌, ◌⊎◌, ℕ, List, Option, Some, None, Result, Ok, Err, option_map}
use Rattle.office_policy.specs.History.{Event}
use Rattle.office_policy.specs.Happened.{event_meant}
use Rattle.office_policy.specs.declared.event.Event as values
use Rattle.sealed_log.specs.declared.unreadable.Unreadable.{Unreadable}
use Rattle.sealed_log.specs.declared.unreadable.Unreadable.TheVariants.{NotALine, NoEventBefore, NoMemory}
use Rattle.journal.specs.declared.reader.Reader.{Reader}
use Rattle.journal.specs.Forms.{IsFormed}
use Rattle.journal.specs.Journal.{taken}
use Rattle.journal.specs.Lines.{Line, done, text_of}

-- the event that a reader holds back
abbrev pub held : Reader → Option Event
held r = option_map event_meant r.held

-- the text is that of a line with its forms, behind so many lines, by which this event
-- stands and that one is held back
pub record IsTaken (before : ℕ) (old new : Option Event) (text : List ℕ) (stands : Option Event)
    : Type 0 where
  pub line : Line
  pub says : text ≡ text_of line
  pub formed : IsFormed line
  pub taken : taken before old line ≡ Some (stands, new)

-- the text says of a line that it is carried out, and that isn't the one before
pub record IsOfOther (before : ℕ) (text : List ℕ) : Type 0 where
  pub number : ℕ
  pub says : text ≡ text_of (done number)
  pub formed : IsFormed (done number)
  pub other : number ≢ before

-- the text is that of a line with its forms which says something of the event before it
pub record IsOnEvent (text : List ℕ) : Type 0 where
  pub line : Line
  pub says : text ≡ text_of line
  pub formed : IsFormed line
  pub needs : (before : ℕ) → taken before None line ≡ None

-- a line behind so many is taken, or it can't stand here and nothing is taken
abbrev pub Takes : ℕ → Reader → Reader → List ℕ → Result (Option values.Event) Unreadable → Type 0
Takes before old new text (Ok stands) =
    IsTaken before (held old) (held new) text (option_map event_meant stands)
Takes before old new text (Err NotALine) =
    (((line : Line) → IsFormed line → text ≢ text_of line) ⊎ IsOfOther before text)
    × (held new ≡ held old)
Takes before old new text (Err NoEventBefore) =
    IsOnEvent text × (held old ≡ None) × (held new ≡ None)
Takes before old new text (Err (NoMemory _)) = held new ≡ held old
Takes before old new text (Err why) = ⊥

-- what becomes of a line that says that one is carried out
abbrev pub Settles : (before of : ℕ) → Reader → Reader → Result (Option values.Event) Unreadable → Type 0
Settles before of old new (Ok stands) =
    taken before (held old) (done of) ≡ Some (option_map event_meant stands, held new)
Settles before of old new (Err NotALine) = (of ≢ before) × (held new ≡ held old)
Settles before of old new (Err NoEventBefore) = (held old ≡ None) × (held new ≡ None)
Settles before of old new (Err why) = ⊥
