-- What a crash may leave of an office after lines, by what it might leave before them.
use Rattle.std.specs.Prelude.{List, [], ◌∷◌}
use Rattle.office_policy.specs.History.{History}
use Rattle.office_policy.specs.Meaning.{Meaning}
use Rattle.office_policy.specs.Left.{LeftAfterOne}
use Rattle.desk_lines.specs.declared.outcome.LineOutcome.{LineOutcome}
use Rattle.desk_lines.specs.declared.outcome.LineOutcome.TheVariants.{Bad, NoMemory, Answered}
use Rattle.desk_lines.specs.Outcomes.{history_after_line}

module _ {X : Type 0} (m : Meaning X) where
  -- a crash leaves no other than these
  abbrev pub LeavesWithin : X → (m.Left → Type 0) → Type 0
  LeavesWithin x After = (left : m.Left) → m.may_leave x left → After left

  -- a line that asks nothing leaves what might be left before it
  abbrev pub LeftAfterLine : (m.Left → Type 0) → History → LineOutcome → m.Left → Type 0
  LeftAfterLine Before h (Bad fault) = Before
  LeftAfterLine Before h (NoMemory _) = Before
  LeftAfterLine Before h (Answered request answer) = LeftAfterOne m Before h request answer

  -- what may be left after lines that were handled one after the other
  abbrev pub LeftAfterLines : (m.Left → Type 0) → History → List LineOutcome → m.Left → Type 0
  LeftAfterLines Before h [] = Before
  LeftAfterLines Before h (outcome ∷ outcomes) =
      LeftAfterLines (LeftAfterLine Before h outcome) (history_after_line h outcome) outcomes
