-- What is noted, on standard error, of lines that are JSON and no request.
use Rattle.std.specs.Prelude.{◌≡◌, ◌⊎◌, ℕ, suc, List, [], ◌∷◌, ◌++◌, codes, decimal}
use Rattle.std.specs.Prelude.{Option, Some, None, Result, Ok, Err, option_and_then}
use Rattle.std.specs.Io.KnownBytes.{Appends}
use Rattle.streams.specs.Counts.{one_more}
use Rattle.streams.specs.Steps.{AppendsPart}
use Rattle.streams.specs.declared.counted.Counted.{Counted}
use Rattle.json_requests.specs.declared.bad.BadLine.TheVariants.{TooLong, NotJson, NotARequest}
use Rattle.desk_lines.specs.Flaws.{flaw_in, flaw_word}
use Rattle.desk_lines.specs.declared.flaw.Flaw.{Flaw}
use Rattle.no_memory.specs.declared.witness.NoMemory.{«NoMemory» as Want}
use Rattle.desk_lines.specs.declared.outcome.LineOutcome.{LineOutcome}
use Rattle.desk_lines.specs.declared.outcome.LineOutcome.TheVariants.{Bad, NoMemory, Answered}

-- what was found to be wrong with a line; or there was no memory to look
abbrev pub Found : Type 0
Found = Result (Option Flaw) Want

abbrev pub IsFoundIn : List ℕ → Found → Type 0
IsFoundIn line (Ok flaw) = flaw ≡ flaw_in line
IsFoundIn line (Err _) = Unit {0}

-- what is named of it: a member, or nothing
abbrev pub word_of : Found → Option (List ℕ)
word_of (Ok flaw) = option_and_then flaw_word flaw
word_of (Err _) = None

abbrev pub behind : Option (List ℕ) → List ℕ
behind None = []
behind (Some word) = codes " " ++ word

abbrev pub named : Found → List ℕ
named found = behind (word_of found)

-- the note of the line of this number
abbrev pub note_line : ℕ → Found → List ℕ
note_line number found =
    codes "office: line " ++ (decimal number ++ (codes ": not-a-request" ++ (named found ++ codes "\n")))

module _ {E : Type 0} (said_of : E → Option (List ℕ)) where
  -- a note was written whole, or as far as it could be
  abbrev pub IsNote : (old new : Counted E) → List ℕ → Type 0
  IsNote old new text =
      (Appends (said_of old.inner) (said_of new.inner) text × (new.faults ≡ old.faults))
      ⊎ (AppendsPart (said_of old.inner) (said_of new.inner) text × (new.faults ≡ one_more old.faults))

  -- the line of this number has a note just where it is JSON and no request: one that names what is
  -- wrong with it
  abbrev pub HasNote : (number : ℕ) (line : List ℕ) → LineOutcome → (old new : Counted E) → Type 0
  HasNote number line (Bad NotARequest) old new =
      (found : Found) × IsFoundIn line found × IsNote old new (note_line number found)
  HasNote number line (Bad TooLong) old new = new ≡ old
  HasNote number line (Bad NotJson) old new = new ≡ old
  HasNote number line (NoMemory _) old new = new ≡ old
  HasNote number line (Answered request answer) old new = new ≡ old

  -- the lines from this number on have their notes, one after the other
  abbrev pub HaveNotes : (number : ℕ) (lines : List (List ℕ)) → List LineOutcome
      → (old new : Counted E) → Type 0
  HaveNotes number [] [] old new = new ≡ old
  HaveNotes number (line ∷ lines) (outcome ∷ outcomes) old new =
      (noted : Counted E) × HasNote number line outcome old noted
      × HaveNotes (suc number) lines outcomes noted new
  HaveNotes number [] (outcome ∷ outcomes) old new = ⊥
  HaveNotes number (line ∷ lines) [] old new = ⊥

  -- all that was written is the notes of some lines, numbered from 1
  abbrev pub AreNotes : (old new : Counted E) → Type 0
  AreNotes old new =
      (lines : List (List ℕ)) × (outcomes : List LineOutcome) × HaveNotes 1 lines outcomes old new
