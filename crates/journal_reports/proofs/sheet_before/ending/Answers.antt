use Rattle.std.proofs.Common.{ℕ, List, Option, None, sym, subst}
use Rattle.review_office.specs.Meant.{meaning_over}
use Rattle.journal.specs.Told.{placed_meant}
use Rattle.journal_reports.specs.Evidence.{ending_of}
use Rattle.journal_reports.specs.Steps.{Looks}
use Rattle.journal_reports.proofs.Searching.{issue_seen}
use Rattle.journal_reports.proofs.sheet_before.ending.Goals as goal

pub returns-in-Some : goal.returns-in-Some
returns-in-Some g c = λ bytes here es before.
    let placed = placed_meant c.args.placed.now in
    subst (λ (l : Option ℕ). Looks bytes (meaning_over g.S.Store) here es c.args.office.now c.history_text.new.office placed.0 (λ h. ending_of l h placed) c.history_text.result) (sym c.in-Some.is)
    (c.history_text.ensures bytes here es before)

pub returns-in-None : goal.returns-in-None
returns-in-None g c = λ bytes here es before.
    let placed = placed_meant c.args.placed.now in
    subst (λ (l : Option ℕ). Looks bytes (meaning_over g.S.Store) here es c.args.office.now c.args.office.now placed.0 (λ h. ending_of l h placed) c.issue_text.result) (sym c.in-None.is)
    (issue_seen (meaning_over g.S.Store) bytes here es c.args.office.now placed c.issue_text.result before c.issue_text.ensures.text c.issue_text.ensures.none)
