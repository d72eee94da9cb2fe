-- The history of a journal by its lines: each as the event that it tells, and the struck ones said
-- to be struck. A line that says that an event is carried out is left out.
use Rattle.std.specs.Prelude.{ℕ, ◌+◌, List, [], ◌∷◌, ◌++◌}
use Rattle.office_policy.specs.History.{History}
use Rattle.journal.specs.Lines.{Line, done, happened, strike}
use Rattle.journal_reports.specs.History.{shown_of}
use Rattle.journal_reports.specs.Passing.{Asked}
use Rattle.journal_reports.specs.Struck.{strike_of, struck_of}

-- the lines for those of a journal from this number on, after this history
abbrev pub lines_for : Asked → (number : ℕ) → History → List Line → List ℕ
lines_for asked number h [] = []
lines_for asked number h (strike ∷ lines) = []
lines_for asked number h (done n ∷ lines) = []
lines_for asked number h (happened e ∷ []) = shown_of asked h (number, e)
lines_for asked number h (happened e ∷ strike ∷ lines) =
    struck_of asked number ++ strike_of asked (number + 1) ++ lines_for asked (number + 2) h lines
lines_for asked number h (happened e ∷ happened f ∷ lines) =
    shown_of asked h (number, e)
    ++ lines_for asked (number + 1) (e ∷ h) (happened f ∷ lines)
lines_for asked number h (happened e ∷ done n ∷ lines) =
    shown_of asked h (number, e) ++ lines_for asked (number + 2) (e ∷ h) lines
