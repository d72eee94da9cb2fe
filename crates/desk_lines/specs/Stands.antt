-- What the desk leaves of an office, a reader and a writer.
use Rattle.std.specs.Prelude.{◌≡◌, ℕ, suc, ◌<◌, ◌≤◌, List, [], ◌∷◌, ◌++◌, Option, IfSome}
use Rattle.std.specs.Prelude.{length, take}
use Rattle.std.specs.Io.KnownBytes.{Keeps, Appends, Consumes}
use Rattle.office_policy.specs.History.{History}
use Rattle.office_policy.specs.Runs.{history_after}
use Rattle.office_policy.specs.Left.{AreLeft}
use Rattle.office_policy.specs.Meaning.{Meaning}
use Rattle.office_policy.specs.Handled.{IsHandled as IsRequestHandled}
use Rattle.office_policy.specs.Handled.{LeavesOnly, UnlessFaulty, Stands, Survives}
use Rattle.office_policy.specs.Ran.{HandlesEach, UnlessLastFaulty}
use Rattle.streams.specs.Lines.{lines_of}
use Rattle.streams.specs.declared.counted.Counted.{Counted}
use Rattle.desk_lines.specs.declared.outcome.LineOutcome.{LineOutcome}
use Rattle.desk_lines.specs.declared.outcome.LineOutcome.TheVariants as came
use Rattle.desk_lines.specs.Notes.{HaveNotes}
use Rattle.desk_lines.specs.Left.{LeavesWithin, LeftAfterLine, LeftAfterLines}
use Rattle.desk_lines.specs.Outcomes.{IsOutcome, history_after_line, AreOutcomes, history_after_lines}
use Rattle.desk_lines.specs.Outcomes.{requests_of, answers_of, told, transcript, want_in}
use Rattle.desk_lines.specs.Parts.{IsCut}
use Rattle.desk_lines.specs.declared.fault.DeskFault.{DeskFault}
use Rattle.desk_lines.specs.declared.fault.DeskFault.TheVariants.{Read, Write, TooManyReads, NoMemory, Unbegun}
use Rattle.no_memory.specs.Witness.{witness}
use Rattle.no_memory.specs.declared.witness.NoMemory.{«NoMemory» as Want}

-- bytes, and bytes that may be known
abbrev Bytes : Type 0
Bytes = List ℕ

abbrev Known : Type 0
Known = Option Bytes

module _ {X : Type 0} (m : Meaning X) where
  -- the office stands where the request was answered by no fault; a line that asks nothing leaves it
  -- standing
  abbrev pub StandsAfterLine : History → (old new : X) → LineOutcome → Type 0
  StandsAfterLine h old new (came.Bad fault) = Stands m h old → Stands m h new
  StandsAfterLine h old new (came.NoMemory _) = Stands m h old → Stands m h new
  StandsAfterLine h old new (came.Answered request answer) =
      UnlessFaulty answer (Stands m (history_after h request answer) new)

  -- the request of a line was handled as it is alone, so that a fault has a cause; a line that asks
  -- nothing changes nothing
  abbrev pub HandlesLine : (old new : X) → LineOutcome → Type 0
  HandlesLine old new (came.Bad fault) = new ≡ old
  HandlesLine old new (came.NoMemory _) = new ≡ old
  HandlesLine old new (came.Answered request answer) = IsRequestHandled m old new request answer

  -- the line was handled, and this is what came of it
  pub record IsHandled (old new : X) (line : List ℕ) (outcome : LineOutcome) : Type 0 where
    pub survives : Survives m old new
    pub policy : (h : History) → m.is_of h old → m.is_clean new → IsOutcome h line outcome
    pub each : HandlesLine old new outcome
    pub office : (h : History) → m.is_of h old → m.is_of (history_after_line h outcome) new
    pub stands : (h : History) → m.is_of h old → m.is_clean new → StandsAfterLine h old new outcome
    -- what a crash may leave
    pub crash : (h : History) → m.is_of h old → m.is_clean new
        → LeavesWithin m new (LeftAfterLine m (m.may_leave old) h outcome)

  -- the lines were handled one after the other, and these are what came of them
  pub record AreHandled (old new : X) (lines : List Bytes) (outcomes : List LineOutcome) : Type 0 where
    pub survives : Survives m old new
    pub policy : (h : History) → m.is_of h old → m.is_clean new → AreOutcomes h lines outcomes
    -- each request was handled as it is alone, on what the one before it left
    pub each : HandlesEach m old new (requests_of outcomes) (answers_of outcomes)
    pub office : (h : History) → m.is_of h old → m.is_of (history_after_lines h outcomes) new
    -- the office stands where the last request that was asked was answered by no fault
    pub stands : (h : History) → m.is_of h old → m.is_clean new
        → UnlessLastFaulty (answers_of outcomes) (Stands m (history_after_lines h outcomes) new)
    pub crash : (h : History) → m.is_of h old → m.is_clean new
        → LeavesWithin m new (LeftAfterLines m (m.may_leave old) h outcomes)
    -- where a crash could leave only the office before, the office that it leaves is of the history
    -- after these. Or one event more is in it, or begun: of a request that was answered by a fault
    pub left : (h : History) → m.is_of h old → LeavesOnly m h old → m.is_clean new
        → LeavesWithin m new
        (AreLeft m (history_after_lines h outcomes) (requests_of outcomes) (answers_of outcomes))

  -- some lines were handled, whatever was reported of the stream that they are of
  pub record HasHandled (old new : X) : Type 0 where
    pub lines : List (List ℕ)
    pub outcomes : List LineOutcome
    pub handled : AreHandled old new lines outcomes

-- of what standard error had and has
module _ {X E : Type 0} (m : Meaning X) (said_of : E → Known) (errors noted : Counted E) where
  -- some lines were so handled, and those that are JSON and no request have their notes
  abbrev pub HasNoted : (old new : X) → Type 0
  HasNoted old new =
      (some : HasHandled m old new) × HaveNotes said_of 1 some.lines some.outcomes errors noted

  -- the lines were handled, and just their transcript was written, which tells this want of memory; and
  -- those that are JSON and no request have their notes
  pub record AreAnswered (old new : X) (before after : Known) (lines : List Bytes)
      (want : Option Want) : Type 0 where
    pub outcomes : List LineOutcome
    pub handled : AreHandled m old new lines outcomes
    pub written : Appends before after (transcript outcomes)
    pub want_is : want ≡ want_in outcomes
    pub notes : HaveNotes said_of 1 lines outcomes errors noted

  -- the lines were handled, and just the transcript of all but the last was written, with the first
  -- `count` bytes of the line that answers the last, and not all of them; and with that it tells this
  -- want of memory. They have their notes
  pub record AreCutShort (old new : X) (before after : Known) (lines : List Bytes)
      (want : Option Want) (count : ℕ) : Type 0 where
    pub outcomes : List LineOutcome
    pub last : LineOutcome
    pub handled : AreHandled m old new lines (outcomes ++ last ∷ [])
    pub count_below : count < length (told last)
    pub written : Appends before after (transcript outcomes ++ take count (told last))
    pub want_is : want ≡ want_in (outcomes ++ last ∷ [])
    pub notes : HaveNotes said_of 1 lines (outcomes ++ last ∷ []) errors noted

  -- of these lines those up to a number were handled, and of the answer to the last of them only a
  -- part was written
  abbrev pub StopsWriting : X → X → Known → Known → List Bytes → Option Want → DeskFault → Type 0
  StopsWriting old new before after lines want (Write line) = (0 < line) × (line ≤ length lines)
      × (count : ℕ) × AreCutShort old new before after (take line lines) want count
  StopsWriting old new before after lines want (NoMemory line _) =
      (0 < line) × (line ≤ length lines)
      × AreCutShort old new before after (take line lines) want 0
  StopsWriting old new before after lines want (Read line) = ⊥
  StopsWriting old new before after lines want (TooManyReads line) = ⊥
  StopsWriting old new before after lines want (Unbegun _) = ⊥

  module _ (old new : X) (unread rest before after : Known) (want : Option Want) where
    -- the lines that were read whole are answered, and nothing of the unfinished one, which has this
    -- number, is handled
    pub record IsUnfinished (line : ℕ) : Type 0 where
      pub bytes : List ℕ
      pub whole : List ℕ
      pub unfinished : List ℕ
      pub read : Consumes unread rest bytes
      pub cut : IsCut bytes whole unfinished
      pub number : line ≡ suc (length (lines_of whole))
      pub answered : AreAnswered old new before after (lines_of whole) want

    -- what stands after a fault; where there was no memory to begin, nothing is written or noted
    abbrev pub StandsAfter : DeskFault → Type 0
    StandsAfter (Read line) = IsUnfinished line
    StandsAfter (TooManyReads line) = IsUnfinished line
    StandsAfter (Write line) =
        IfSome unread
        (λ input. StopsWriting old new before after (lines_of input) want (Write line))
    StandsAfter (NoMemory line _) =
        IfSome unread (λ input.
        StopsWriting old new before after (lines_of input) want (NoMemory line witness))
    StandsAfter (Unbegun _) = Keeps before after × (noted ≡ errors)
