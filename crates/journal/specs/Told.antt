-- What is told of a journal that is read as a stream: its events that stand, each with the number
-- of its line; and where it can't be read on.
use Rattle.std.specs.Prelude.{◌≡◌, ◌≢◌, ◌⊎◌, ◌+◌, ℕ, List, [], ◌∷◌, ◌++◌, Option, Some, None}
use Rattle.std.specs.Prelude.{Result, Ok, Err, All, IfSome, length, map, reverse}
use Rattle.std.specs.Prelude.{option_and_then, option_map}
use Rattle.streams.specs.Lines.{NoFeed}
use Rattle.sealed_log.specs.Input.{IsTooLong, IsUnsealed}
use Rattle.sealed_log.specs.Sealed.{IsBody, last_seal, no_seal, sealed_line, sealed_lines, seal_of}
use Rattle.sealed_log.specs.declared.unreadable.Unreadable.{Unreadable}
use Rattle.sealed_log.specs.declared.unreadable.Unreadable.TheVariants.{NotALine, NoEventBefore, NoMemory}
use Rattle.sealed_log.specs.declared.unreadable.Unreadable.TheVariants.{Unsealed, TornLine, Read}
use Rattle.office_policy.specs.History.{Event, History}
use Rattle.office_policy.specs.Happened.{event_meant}
use Rattle.journal.specs.declared.events.Events.{Events}
use Rattle.journal.specs.declared.events.Placed.{Placed}
use Rattle.journal.specs.Forms.{IsFormed}
use Rattle.journal.specs.Journal.{IsEntry, IsJournalOf, taken}
use Rattle.journal.specs.Lines.{Line, text_of}
use Rattle.journal.specs.Reading.{IsOfOther, IsOnEvent, held}

-- the event that stands, where one does, with the number of its line
abbrev pub standing : ℕ → Option Event → List (ℕ × Event)
standing number None = []
standing number (Some e) = (number, e) ∷ []

-- the events that stand by these lines, the oldest first, each with the number of its line from 1.
-- Before them came so many lines, and an event may be held back of the last
abbrev pub told : ℕ → Option Event → List Line → Option (List (ℕ × Event))
told before held [] = Some (standing before held)
told before held (line ∷ lines) =
    option_and_then
    (λ t. option_map (λ es. standing before t.0 ++ es) (told (before + 1) t.1 lines))
    (taken before held line)

-- the history of what is told: its events, the newest first
abbrev pub history_told : List (ℕ × Event) → History
history_told es = reverse (map (λ p. p.1) es)

-- the event that is held back after these lines, behind so many; none where one can't be taken
abbrev pub held_after : ℕ → Option Event → List Line → Option (Option Event)
held_after before held [] = Some held
held_after before held (line ∷ lines) =
    option_and_then (λ t. held_after (before + 1) t.1 lines) (taken before held line)

-- how far a journal was read: how many lines, the event held back, the seal of the lines, and the bytes
-- left, where known
pub record Place : Type 0 where
  pub taken : ℕ
  pub held : Option Event
  pub seal : List ℕ
  pub left : Option (List ℕ)

-- the place of a reader, by what its input has left
abbrev pub place : {R : Type 0} → (R → Option (List ℕ)) → Events R → Place
place remaining x = record {
  taken = x.taken;
  held = held x.reader;
  seal = x.seal;
  left = remaining x.input;
}

-- before the first line
abbrev pub start : Option (List ℕ) → Place
start bytes = record { taken = 0; held = None; seal = no_seal; left = bytes }

-- the text of lines, each sealed, behind what has the seal `prior`; and their seal
abbrev pub text_behind : List ℕ → List Line → List ℕ
text_behind prior lines = sealed_lines prior (map text_of lines)

abbrev pub seal_behind : List ℕ → List Line → List ℕ
seal_behind prior lines = last_seal prior (map text_of lines)

-- the bytes are those of lines that can stand in a journal, and these tell the events
pub record IsTold (before : ℕ) (held : Option Event) (prior bytes : List ℕ)
    (es : List (ℕ × Event)) : Type 0 where
  pub lines : List Line
  pub entries : All IsEntry lines
  pub says : bytes ≡ text_behind prior lines
  pub tells : told before held lines ≡ Some es

-- what is left tells these events
abbrev pub Tells : Place → List (ℕ × Event) → Type 0
Tells p es = IfSome p.left (λ bytes. IsTold p.taken p.held p.seal bytes es)

-- lines that can stand in a journal stand before the new place, and tell these events and the one held
-- back
pub record IsBegun (before : ℕ) (held : Option Event) (prior bytes : List ℕ)
    (new : Place) (es : List (ℕ × Event)) : Type 0 where
  pub lines : List Line
  pub entries : All IsEntry lines
  pub rest : List ℕ
  pub says : bytes ≡ text_behind prior lines ++ rest
  pub left : new.left ≡ Some rest
  pub sealed : new.seal ≡ seal_behind prior lines
  pub counted : new.taken ≡ before + length lines
  pub tells : told before held lines ≡ Some (es ++ standing new.taken new.held)

-- what was left tells these events up to the new place
abbrev pub Begins : Place → Place → List (ℕ × Event) → Type 0
Begins old new es =
    IfSome old.left (λ bytes. IsBegun old.taken old.held old.seal bytes new es)

-- the text up to the place is the journal of this history, and the seal there is its seal
pub record IsJournalTo (p : Place) (text : List ℕ) (h : History) : Type 0 where
  pub front : List ℕ
  pub rest : List ℕ
  pub parts : text ≡ front ++ rest
  pub left : p.left ≡ Some rest
  pub journal : IsJournalOf front h
  pub sealed : p.seal ≡ seal_of journal.bodies

-- the first line is sealed, and its body is that of no line
pub record HasOther (prior bytes : List ℕ) : Type 0 where
  pub body : List ℕ
  pub rest : List ℕ
  pub is : bytes ≡ sealed_line prior body ++ rest
  pub is_body : IsBody body
  pub other : (line : Line) → IsFormed line → body ≢ text_of line

-- the first line says of a line that it is carried out, and that isn't the one before
pub record HasOtherNumber (before : ℕ) (prior bytes : List ℕ) : Type 0 where
  pub body : List ℕ
  pub rest : List ℕ
  pub is : bytes ≡ sealed_line prior body ++ rest
  pub is_body : IsBody body
  pub of : IsOfOther before body

-- the first line is one that says something of the event of the line before it
pub record HasOnEvent (prior bytes : List ℕ) : Type 0 where
  pub body : List ℕ
  pub rest : List ℕ
  pub is : bytes ≡ sealed_line prior body ++ rest
  pub is_body : IsBody body
  pub on : IsOnEvent body

-- why no line is taken of bytes, behind so many lines. The first line is too long, has no line's
-- body, or says of another than the line before that it is carried out. Or it says something of the
-- event before, and none is held back. Or it isn't sealed, or the bytes end within it. Of failing
-- input or memory no contract can say when.
abbrev pub CannotTake : Unreadable → ℕ → Option Event → (prior bytes : List ℕ) → Type 0
CannotTake NotALine before held prior bytes =
    HasOther prior bytes ⊎ IsTooLong bytes ⊎ HasOtherNumber before prior bytes
CannotTake NoEventBefore before held prior bytes = HasOnEvent prior bytes × (held ≡ None)
CannotTake Unsealed before held prior bytes = IsUnsealed prior bytes
CannotTake TornLine before held prior bytes = NoFeed bytes × (bytes ≢ [])
CannotTake Read before held prior bytes = Unit {0}
CannotTake (NoMemory _) before held prior bytes = Unit {0}

-- lines that can stand in a journal can be taken, to this number of lines, and the one behind them
-- can't
pub record IsStopped (before : ℕ) (held : Option Event) (prior bytes : List ℕ)
    (after : ℕ) (fault : Unreadable) : Type 0 where
  pub lines : List Line
  pub entries : All IsEntry lines
  pub rest : List ℕ
  pub says : bytes ≡ text_behind prior lines ++ rest
  pub counted : after ≡ before + length lines
  pub last : Option Event
  pub holds : held_after before held lines ≡ Some last
  pub cannot : CannotTake fault after last (seal_behind prior lines) rest

-- what is left can't be taken further than to this number of lines
abbrev pub Stops : Place → ℕ → Unreadable → Type 0
Stops p after fault =
    IfSome p.left (λ bytes. IsStopped p.taken p.held p.seal bytes after fault)

-- all events are these first ones, and then those that what is left at the place tells
pub record IsThen (p : Place) (first all : List (ℕ × Event)) : Type 0 where
  pub bytes : List ℕ
  pub left : p.left ≡ Some bytes
  pub rest : List (ℕ × Event)
  pub tells : IsTold p.taken p.held p.seal bytes rest
  pub parts : all ≡ first ++ rest

-- the old place tells these events, and then just what the new one tells, to the end or up to a later
-- place. Reading from the old place stops where it stops from the new one
pub record GoesOn (old new : Place) (first : List (ℕ × Event)) : Type 0 where
  pub tells : (es : List (ℕ × Event)) → Tells new es → Tells old (first ++ es)
  pub begins : (later : Place) (es : List (ℕ × Event)) → Begins new later es
      → Begins old later (first ++ es)
  pub stops : (after : ℕ) (fault : Unreadable) → Stops new after fault → Stops old after fault
  pub only : (bytes : List ℕ) (all : List (ℕ × Event)) → old.left ≡ Some bytes
      → IsTold old.taken old.held old.seal bytes all → IsThen new first all

-- the event that a value of the program is, with its line
abbrev pub placed_meant : Placed → ℕ × Event
placed_meant p = (p.line, event_meant p.event)

-- what was left tells nothing, and was read to its end, up to the new place
pub record Ends (old new : Place) : Type 0 where
  pub tells : Tells old []
  pub begins : Begins old new []
  pub left : IfSome old.left (λ _. new.left ≡ Some [])
  pub held : new.held ≡ None

-- the next event that stands, or that there is none; or where and why it can't be read on
abbrev pub Gives : Place → Place → Result (Option Placed) Unreadable → Type 0
Gives old new (Ok (Some placed)) = GoesOn old new (placed_meant placed ∷ [])
Gives old new (Ok None) = Ends old new
Gives old new (Err fault) = Stops old new.taken fault

-- no line can be taken of what is left at a place
abbrev pub CannotGoOn : Unreadable → Place → Type 0
CannotGoOn fault p = IfSome p.left (λ bytes. CannotTake fault p.taken p.held p.seal bytes)

-- lines are taken to the last place where one can be, by which no event stands; so many were taken
-- then, and the event that was held back there still is
pub record Leaves (old new : Place) (fault : Unreadable) : Type 0 where
  pub last : Place
  pub on : GoesOn old last []
  pub cannot : CannotGoOn fault last
  pub taken : new.taken ≡ last.taken
  pub held : new.held ≡ last.held

-- the event that is held back at a place, with the number of its line
abbrev pub held_at : Place → Option (ℕ × Event)
held_at p = option_map (λ e. (p.taken, e)) p.held

-- the place, where none is
abbrev pub without_held : Place → Place
without_held p = record { taken = p.taken; held = None; seal = p.seal; left = p.left }

-- a fault stays: what comes after it is that fault again
abbrev pub KeepsFault : (old new : Option Unreadable) → Result (Option Placed) Unreadable → Type 0
KeepsFault old new (Ok found) = (old ≡ None) × (new ≡ None)
KeepsFault old new (Err fault) = (old ≡ None ⊎ old ≡ Some fault) × (new ≡ Some fault)
