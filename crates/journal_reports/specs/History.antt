-- The history that people read of a journal: the lines of its events.
use Rattle.std.specs.Prelude.{◌≡◌, ◌⊎◌, ◌<◌, ◌-◌, ◌++◌, ◌∷◌, [], ℕ, List, length, take, Option}
use Rattle.std.specs.Prelude.{Some, None, Err, IfSome, if◌then◌else◌}
use Rattle.std.specs.Io.KnownBytes.{Appends}
use Rattle.sqlite.specs.Held.{Held}
use Rattle.sqlite.specs.Store.{Ghosts}
use Rattle.office_words.specs.declared.fault.Fault.{Fault}
use Rattle.office_policy.specs.Handled.{Stands}
use Rattle.office_policy.specs.History.{Event, History}
use Rattle.office_policy.specs.Lawful.{IsLawfulHistory}
use Rattle.office_policy.specs.Meaning.{Meaning}
use Rattle.review_office.specs.declared.replay.Unreplayed.{Unreplayed}
use Rattle.review_office.specs.Looking.{IsMetBetween}
use Rattle.review_office.specs.Meant.{meaning_over}
use Rattle.review_office.specs.Replayed.{IsReplayed}
use Rattle.sealed_log.specs.declared.unreadable.Unreadable.{Unreadable}
use Rattle.journal.specs.Told.{Begins, CannotGoOn, GoesOn, Place, Tells, history_told}
use Rattle.journal.specs.Told.{standing, start}
use Rattle.journal_faults.specs.declared.refused.Why.{Why}
use Rattle.journal_faults.specs.declared.refused.Why.TheVariants as halt
use Rattle.journal_office.specs.Rebuilt.{HasReplayed, line_behind}
use Rattle.journal_office.specs.Steps.{ComesNext, IsUnbegun}
use Rattle.journal_faults.specs.declared.unwritten.Unwritten.{Unwritten}
use Rattle.journal_faults.specs.declared.unwritten.Unwritten.TheVariants as why
use Rattle.journal_reports.specs.Lines.{line_of}
use Rattle.journal_reports.specs.Passing.{Asked, passes}
use Rattle.journal_reports.specs.Struck.{struck_lines}

-- the line of an event after this history, where it is asked for
abbrev pub shown_of : Asked → History → (ℕ × Event) → List ℕ
shown_of asked h placed =
    if passes asked placed then line_of asked.json h placed.0 placed.1 else []

-- behind those for the lines of the journal between a line and its own, by which no event stands
abbrev pub shown_behind : Asked → (behind : ℕ) → History → (ℕ × Event) → List ℕ
shown_behind asked behind h placed =
    struck_lines asked behind (placed.0 - 1 - behind) ++ shown_of asked h placed

-- the lines of events after this history and behind a line, the oldest first, each of the history
-- before it
abbrev pub lines_after : Asked → (behind : ℕ) → History → List (ℕ × Event) → List ℕ
lines_after asked behind h [] = []
lines_after asked behind h (placed ∷ es) =
    shown_behind asked behind h placed ++ lines_after asked placed.0 (placed.1 ∷ h) es

abbrev pub lines_told : Asked → List (ℕ × Event) → List ℕ
lines_told asked es = lines_after asked 0 [] es

-- the line of the last of the events behind a line, or that one
abbrev pub last_behind : ℕ → List (ℕ × Event) → ℕ
last_behind line [] = line
last_behind line (placed ∷ es) = last_behind placed.0 es

abbrev pub last_line : List (ℕ × Event) → ℕ
last_line es = last_behind 0 es

-- the lines for so many lines of the journal, of which these events stand
abbrev pub lines_to : Asked → List (ℕ × Event) → (count : ℕ) → List ℕ
lines_to asked es count =
    lines_told asked es ++ struck_lines asked (last_line es) (count - last_line es)

-- no event stands behind the place up to the line of this number: the next one stands on the line
-- behind that, or the journal can be read so far
abbrev pub NoneTo : Place → ℕ → Type 0
NoneTo here line =
    ((placed : ℕ × Event) × ComesNext here placed × (line ≡ placed.0 - 1))
    ⊎ ((last : Place) × Begins here last [] × (line ≡ last.taken))

-- of a journal with these bytes, where they are known, what was asked for is behind what a writer
-- had
module _ (bytes : Option (List ℕ)) (asked : Asked) (old new : Option (List ℕ)) where
  module _ {X : Type 0} (m : Meaning X) (left : X) where
    -- the journal tells these events, a lawful history, to its end, and the lines for all its lines
    -- were written
    pub record IsWritten : Type 0 where
      pub events : List (ℕ × Event)
      pub end : Place
      pub told : Tells (start bytes) events
      pub begins : Begins (start bytes) end events
      pub whole : IfSome bytes (λ _. end.left ≡ Some [])
      pub held : end.held ≡ None
      pub lawful : m.is_clean left → IsLawfulHistory (history_told events)
      pub written : m.is_clean left → Appends old new (lines_to asked events end.taken)

    -- the events before a place happened again in the office, and the lines for so many lines were
    -- written
    pub record HasWritten (here : Place) (before : List (ℕ × Event)) (count : ℕ) (office : X)
        : Type 0 where
      pub replayed : HasReplayed bytes m here before office
      pub written : m.is_clean left → Appends old new (lines_to asked before count)

    -- the line of this number can't be read, for this fault; the events of all lines before it that
    -- aren't struck out are a lawful history, and the lines for all these lines were written
    pub record IsCutOff (line : ℕ) (fault : Unreadable) : Type 0 where
      pub last : Place
      pub before : List (ℕ × Event)
      pub told : GoesOn (start bytes) last before
      pub cannot : CannotGoOn fault last
      pub counted : line ≡ line_behind last.taken
      pub lawful : m.is_clean left
          → IsLawfulHistory (history_told (before ++ standing last.taken last.held))
      pub written : m.is_clean left → Appends old new
          (lines_to asked (before ++ standing last.taken last.held) last.taken)

    -- the event of this line is the next one, and doesn't happen again; the lines for all lines
    -- before it were written
    pub record IsKeptOut (line : ℕ) (cause : Unreplayed) : Type 0 where
      pub here : Place
      pub before : List (ℕ × Event)
      pub office : X
      pub written : HasWritten here before (line - 1) office
      pub event : Event
      pub comes : ComesNext here (line, event)
      pub refused : IsReplayed m office left event (Err cause)

    -- the journal can't be read on, or its event doesn't happen again
    abbrev pub IsHalted : (line : ℕ) → Why → Type 0
    IsHalted line (halt.Unread fault) = IsCutOff line fault
    IsHalted line halt.NotFounded = ⊥
    IsHalted line (halt.Unfounded fault) = ⊥
    IsHalted line (halt.Unreplayed cause) = IsKeptOut line cause

    -- the event of this line is the next one, and the office met this fault when it was looked at
    pub record IsBlind (line : ℕ) (fault : Fault) : Type 0 where
      pub here : Place
      pub before : List (ℕ × Event)
      pub office : X
      pub written : HasWritten here before (line - 1) office
      pub event : Event
      pub comes : ComesNext here (line, event)
      pub met : m.is_clean left → IsMetBetween m office left fault

    -- the next event happened again, and of its line only a front part was written
    pub record IsCutIn : Type 0 where
      pub here : Place
      pub before : List (ℕ × Event)
      pub placed : ℕ × Event
      pub told : GoesOn (start bytes) here before
      pub comes : ComesNext here placed
      pub lawful : m.is_clean left → IsLawfulHistory (history_told (before ++ placed ∷ []))
      pub stands : m.is_clean left → Stands m (history_told (before ++ placed ∷ [])) left
      pub written : m.is_clean left → (count : ℕ)
          × (count < length (shown_of asked (history_told before) placed))
          × Appends old new (lines_to asked before (placed.0 - 1)
          ++ take count (shown_of asked (history_told before) placed))

    -- no event stands behind these up to a line, and of the lines for what is struck out there only
    -- a front part was written
    pub record IsCutBehind : Type 0 where
      pub here : Place
      pub before : List (ℕ × Event)
      pub told : GoesOn (start bytes) here before
      pub line : ℕ
      pub none : NoneTo here line
      pub lawful : m.is_clean left → (before ≡ []) ⊎ IsLawfulHistory (history_told before)
      pub written : m.is_clean left → (count : ℕ)
          × (count < length (struck_lines asked (last_line before) (line - last_line before)))
          × Appends old new (lines_told asked before
          ++ take count (struck_lines asked (last_line before) (line - last_line before)))

    -- the journal tells some events up to a place, and just the lines up to that of the last of them
    -- were written, or with those behind it by which none stands
    pub record IsGivenUp : Type 0 where
      pub here : Place
      pub before : List (ℕ × Event)
      pub told : GoesOn (start bytes) here before
      pub line : ℕ
      pub none : (line ≡ last_line before) ⊎ NoneTo here line
      pub written : m.is_clean left → Appends old new (lines_to asked before line)

  module _ {S : Type 0} (g : Ghosts S) (conn left : Held S) where
    -- why not all lines were written, and what was; where no office is founded, by what can be read
    -- of the journal, no line was
    abbrev pub IsUnwritten : Unwritten → Type 0
    IsUnwritten (why.Refused refused) =
        (IsUnbegun bytes g conn left refused.line refused.why × (new ≡ old))
        ⊎ IsHalted (meaning_over g) left refused.line refused.why
    IsUnwritten (why.Unseen line fault) = IsBlind (meaning_over g) left line fault
    IsUnwritten why.Write = IsCutIn (meaning_over g) left ⊎ IsCutBehind (meaning_over g) left
    IsUnwritten (why.NoMemory _) = IsGivenUp (meaning_over g) left
