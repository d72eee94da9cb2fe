-- What looking at an office comes to.
use Rattle.std.specs.Prelude.{◌≡◌, ◌↔◌, Bool, true, List, ℕ, Option, Some, Result, IfOk, IfErr}
use Rattle.std.specs.Prelude.{OnOk}
use Rattle.office_words.specs.declared.fault.Fault.{Fault}
use Rattle.office_words.specs.declared.fault.Fault.TheVariants as faults
use Rattle.office_words.specs.declared.revision.State.TheVariants.{Open}
use Rattle.office_words.specs.declared.row.RevisionRow.{RevisionRow}
use Rattle.office_policy.specs.History.{Event, History}
use Rattle.office_policy.specs.TablesOf.{tables_of}
use Rattle.office_policy.specs.ShowsEvent.{Shows}
use Rattle.office_policy.specs.Meaning.{Meaning}
use Rattle.office_policy.specs.Handled.{HasRisen, Stands}
use Rattle.office_policy.specs.Judging.{LeavesAll}

-- ---- what is looked for

-- a revision is there that is open, by this caller and with this text
pub record IsOpenBy (found : Option RevisionRow) (caller text : List ℕ) : Type 0 where
  pub row : RevisionRow
  pub there : found ≡ Some row
  pub still_open : row.state ≡ Open
  pub author : row.author ≡ caller
  pub body : row.body ≡ text

-- the tables of the history show the event just where that is the answer
abbrev pub TellsWhether : Event → History → Bool → Type 0
TellsWhether e h shown = shown ≡ true ↔ Shows (tables_of h) e

-- ---- what looking leaves

module _ {X : Type 0} (m : Meaning X) where
  -- a fault other than `memory` was met by a call between the two, or it is `disk` and a fault had
  -- shut the office before; none is for the form of its tables
  abbrev pub IsMetBetween : (old new : X) → Fault → Type 0
  IsMetBetween old new (faults.NoMemory _) = Unit {0}
  IsMetBetween old new faults.Disk = m.is_open old → HasRisen (m.faults old) (m.faults new)
  IsMetBetween old new faults.Full = HasRisen (m.faults old) (m.faults new)
  IsMetBetween old new faults.NotAnOffice = ⊥

  -- something was looked for, and nothing was changed
  pub record HasLooked {A : Type 0} (old new : X) (Found : History → A → Type 0)
      (result : Result A Fault) : Type 0 where
    pub leaves : LeavesAll m old new
    -- the answer is so found of each history that the office is of
    pub found : (h : History) → m.is_of h old → m.is_clean new → IfOk result (Found h)
    -- a fault has a cause
    pub cause : (h : History) → m.is_of h old → m.is_clean new
        → IfErr result (IsMetBetween old new)
    -- the office stands where no fault is met
    pub stands : (h : History) → m.is_of h old → m.is_clean new → OnOk result (Stands m h new)

  -- what looking back gives of the history was looked for
  abbrev pub HasLookedBack : {A : Type 0} → (old new : X) → (History → A) → Result A Fault
      → Type 0
  HasLookedBack old new look result = HasLooked old new (λ h found. found ≡ look h) result
