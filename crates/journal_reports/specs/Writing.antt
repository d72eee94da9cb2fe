-- What is done for the line of an event.
use Rattle.std.specs.Prelude.{◌≡◌, ◌⊎◌, ℕ, List, Option, Result, Ok, Err, String, ⊤}
use Rattle.std.specs.Prelude.{string_bytes}
use Rattle.std.specs.Io.KnownBytes.{Appends}
use Rattle.std.specs.declared.alloc.Global.{Global}
use Rattle.streams.specs.Steps.{AppendsPart}
use Rattle.office_words.specs.declared.fault.Fault.{Fault}
use Rattle.office_words.specs.declared.row.RevisionRow.{RevisionRow}
use Rattle.office_policy.specs.Handled.{Stands}
use Rattle.office_policy.specs.History.{Event}
use Rattle.office_policy.specs.Lawful.{IsLawfulHistory}
use Rattle.office_policy.specs.Meaning.{Meaning}
use Rattle.review_office.specs.Looking.{IsMetBetween}
use Rattle.journal.specs.Told.{Place, history_told}
use Rattle.journal_office.specs.Rebuilt.{HasReplayed}
use Rattle.journal_faults.specs.declared.unwritten.Unwritten.{Unwritten}
use Rattle.journal_faults.specs.declared.unwritten.Unwritten.TheVariants as why
use Rattle.journal_reports.specs.History.{IsBlind, IsCutBehind, IsCutIn, IsGivenUp, IsHalted}
use Rattle.journal_reports.specs.History.{IsWritten, last_line, lines_to, shown_of}
use Rattle.journal_reports.specs.Lines.{looked_up}
use Rattle.journal_reports.specs.Passing.{Asked}

-- a text was written, or the writer failed and a front part was
abbrev pub WritesText : (old new : Option (List ℕ)) → List ℕ → Result ⊤ Unwritten → Type 0
WritesText old new text (Ok done) = Appends old new text
WritesText old new text (Err reason) = (reason ≡ why.Write) × AppendsPart old new text

-- why it wasn't written: there was no memory for it, or the writer failed
abbrev pub WritesPart : (old new : Option (List ℕ)) → List ℕ → Unwritten → Type 0
WritesPart old new text (why.Refused refused) = ⊥
WritesPart old new text (why.Unseen line fault) = ⊥
WritesPart old new text why.Write = AppendsPart old new text
WritesPart old new text (why.NoMemory _) = new ≡ old

-- the first line was written, or it wasn't
abbrev pub WritesFirst : (old new : Option (List ℕ)) → List ℕ → Result ⊤ Unwritten → Type 0
WritesFirst old new text (Ok done) = Appends old new text
WritesFirst old new text (Err reason) = WritesPart old new text reason

module _ (bytes : Option (List ℕ)) {X : Type 0} (m : Meaning X) where
  module _ (here : Place) (es : List (ℕ × Event)) (old new : X) where
    -- the office is still that of these events, and this is what the line of the next looks up
    pub record HasLookedUp (e : Event) (found : Option RevisionRow) : Type 0 where
      pub clean : m.is_clean new → m.is_clean old
      pub replayed : HasReplayed bytes m here es new
      pub row : m.is_clean new → found ≡ looked_up e (history_told es)

    -- the office met this fault
    pub record HasMet (fault : Fault) : Type 0 where
      pub clean : m.is_clean new → m.is_clean old
      pub met : m.is_clean new → IsMetBetween m old new fault

    abbrev pub LooksUp : Event → Result (Option RevisionRow) Fault → Type 0
    LooksUp e (Ok found) = HasLookedUp e found
    LooksUp e (Err fault) = HasMet fault

    -- the office is still that of these events, and this is the line of the next, where it is
    -- asked for
    pub record HasLine (asked : Asked) (placed : ℕ × Event) (text : List ℕ) : Type 0 where
      pub clean : m.is_clean new → m.is_clean old
      pub replayed : HasReplayed bytes m here es new
      pub line : m.is_clean new → text ≡ shown_of asked (history_told es) placed

    -- why there is none
    abbrev pub HasNoLine : (placed : ℕ × Event) → Unwritten → Type 0
    HasNoLine placed (why.Refused refused) = ⊥
    HasNoLine placed (why.Unseen line fault) = (line ≡ placed.0) × HasMet fault
    HasNoLine placed why.Write = ⊥
    HasNoLine placed (why.NoMemory _) = m.is_clean new → m.is_clean old

    abbrev pub MakesLine : Asked → (placed : ℕ × Event) → Result (String Global) Unwritten → Type 0
    MakesLine asked placed (Ok text) = HasLine asked placed (string_bytes text)
    MakesLine asked placed (Err reason) = HasNoLine placed reason

  module _ (asked : Asked) (old new : Option (List ℕ)) (left : X) where
    -- why no more lines were written
    abbrev pub IsStopped : Unwritten → Type 0
    IsStopped (why.Refused refused) =
        IsHalted bytes asked old new m left refused.line refused.why
    IsStopped (why.Unseen line fault) = IsBlind bytes asked old new m left line fault
    IsStopped why.Write =
        IsCutIn bytes asked old new m left ⊎ IsCutBehind bytes asked old new m left
    IsStopped (why.NoMemory _) = IsGivenUp bytes asked old new m left

    -- the events are a lawful history, of which the office stands, and the lines up to that of the
    -- last were written
    pub record AreWritten (all : List (ℕ × Event)) : Type 0 where
      pub lawful : m.is_clean left → IsLawfulHistory (history_told all)
      pub stands : m.is_clean left → Stands m (history_told all) left
      pub written : m.is_clean left → Appends old new (lines_to asked all (last_line all))

    -- the line of the last of them was written, which has happened again
    abbrev pub WritesNext : List (ℕ × Event) → Result ⊤ Unwritten → Type 0
    WritesNext all (Ok done) = AreWritten all
    WritesNext all (Err reason) = IsStopped reason

    -- the lines of all events were written
    abbrev pub WritesAll : Result ⊤ Unwritten → Type 0
    WritesAll (Ok done) = IsWritten bytes asked old new m left
    WritesAll (Err reason) = IsStopped reason
