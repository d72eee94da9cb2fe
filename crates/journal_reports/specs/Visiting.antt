-- Who sees the events of a journal: for evidence, or to write its history.
use Rattle.std.specs.Prelude.{◌≡◌, ℕ, List, Option, Result, ⊤}
use Rattle.sqlite.specs.Store.{Ghosts}
use Rattle.office_policy.specs.History.{Event}
use Rattle.review_office.specs.Meant.{meaning_over}
use Rattle.journal.specs.Told.{place}
use Rattle.journal_office.specs.declared.replay.Replay.{Replay}
use Rattle.journal_office.specs.Rebuilt.{HasReplayed}
use Rattle.journal_faults.specs.declared.no_evidence.NoEvidence.{NoEvidence}
use Rattle.journal_faults.specs.declared.unwritten.Unwritten.{Unwritten}
use Rattle.journal_reports.specs.declared.history.Writer.{Writer}
use Rattle.journal_reports.specs.declared.sheet_before.Seeker.{Seeker}
use Rattle.journal_reports.specs.History.{HasWritten, last_line}
use Rattle.journal_reports.specs.Steps.{NoneWanted, Searches}
use Rattle.journal_reports.specs.Writing.{WritesAll}

module _ {S R : Type 0} (g : Ghosts S) (remaining : R → Option (List ℕ)) where
  -- ---- for evidence

  -- who looks is looking for the same as when that began. An office of events of which none is asked
  -- for is still one of such
  pub record IsSearching (begun : Seeker) (from : Replay S R) (looking : Seeker) (now : Replay S R)
      : Type 0 where
    pub same : looking ≡ begun
    pub none : (bytes : Option (List ℕ)) (es : List (ℕ × Event))
        → HasReplayed bytes (meaning_over g) (place remaining from.events) es from.office
        → NoneWanted begun.name.now begun.number begun.line es
        → (all : List (ℕ × Event))
        × HasReplayed bytes (meaning_over g) (place remaining now.events) all now.office
        × NoneWanted begun.name.now begun.number begun.line all

  -- the evidence, or why there is none, where the office was of events of which none is asked for
  abbrev pub HasSearched : (begun : Seeker) → (from now : Replay S R)
      → Result (List ℕ) NoEvidence → Type 0
  HasSearched begun from now result = (bytes : Option (List ℕ)) (es : List (ℕ × Event))
      → HasReplayed bytes (meaning_over g) (place remaining from.events) es from.office
      → NoneWanted begun.name.now begun.number begun.line es
      → Searches bytes begun.name.now begun.number begun.line (meaning_over g) now.office result

  -- ---- to write the history

  module _ {W : Type 0} (contents : W → Option (List ℕ)) (begun : Writer W) (from : Replay S R)
      (writer : Writer W) (now : Replay S R) where
    -- who writes is asked for the same as when that began, and writes to the same output. If the lines
    -- up to an event were written then, those up to the last are
    pub record IsWriting : Type 0 where
      pub same_reference : writer.output.ghost_name ≡ begun.output.ghost_name
      pub asked : writer.filter.now ≡ begun.filter.now
      pub written : (bytes old : Option (List ℕ)) (es : List (ℕ × Event))
          → HasWritten bytes begun.filter.now old (contents begun.output.now.inner)
          (meaning_over g) from.office (place remaining from.events) es begun.behind from.office
          → last_line es ≡ begun.behind
          → (all : List (ℕ × Event))
          × HasWritten bytes begun.filter.now old (contents writer.output.now.inner)
          (meaning_over g) now.office (place remaining now.events) all writer.behind now.office
          × (last_line all ≡ writer.behind)

    -- the lines of all events were written, or not, if those up to an event were when it began
    pub record HasWrittenOn (result : Result ⊤ Unwritten) : Type 0 where
      pub same_reference : writer.output.ghost_name ≡ begun.output.ghost_name
      pub written : (bytes old : Option (List ℕ)) (es : List (ℕ × Event))
          → HasWritten bytes begun.filter.now old (contents begun.output.now.inner)
          (meaning_over g) from.office (place remaining from.events) es begun.behind from.office
          → last_line es ≡ begun.behind
          → WritesAll bytes (meaning_over g) begun.filter.now old
          (contents writer.output.now.inner) now.office result
