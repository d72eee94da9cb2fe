-- Who has each event of a journal happen again.
use Rattle.std.specs.Prelude.{◌≡◌, ◌<◌, [], ℕ, List, Option, Some, None, Result, ⊤, IfOk, IfSome, length}
use Rattle.sqlite.specs.Held.{state}
use Rattle.sqlite.specs.State.{HasCleanDisk}
use Rattle.sqlite.specs.Store.{Ghosts}
use Rattle.office_policy.specs.History.{Event}
use Rattle.review_office.specs.Meant.{meaning_over}
use Rattle.journal.specs.SealsAt.{IsSeen}
use Rattle.journal.specs.Told.{place}
use Rattle.journal_faults.specs.declared.refused.Refused.{Refused}
use Rattle.journal_office.specs.declared.replay.Replay.{Replay}
use Rattle.journal_office.specs.Rebuilt.{HasReplayed}
use Rattle.journal_office.specs.Steps.{Continues, HasBegun}

module _ {S R : Type 0} (g : Ghosts S) (remaining : R → Option (List ℕ)) (from now : Replay S R) where
  -- if only the first event had happened again when it began, the office stands of all that were taken
  pub record IsReplaying : Type 0 where
    pub replayed : (bytes : Option (List ℕ)) (first : ℕ × Event)
        → HasBegun (meaning_over g) bytes from.office (place remaining from.events) first None
        → from.count ≡ 1
        → (all : List (ℕ × Event))
        × HasReplayed bytes (meaning_over g) (place remaining now.events) all now.office
        × (length all ≡ now.count) × (0 < length all)
    pub seen : (bytes : Option (List ℕ))
        → IsSeen bytes (place remaining from.events) from.events.at
        → IsSeen bytes (place remaining now.events) now.events.at
    pub line : now.events.at.line ≡ from.events.at.line
    pub clean : HasCleanDisk (state g now.office) → HasCleanDisk (state g from.office)

  -- all further events happened again, or not
  pub record HasGoneOn (result : Result ⊤ Refused) : Type 0 where
    pub replayed : (bytes : Option (List ℕ)) (first : ℕ × Event)
        → HasBegun (meaning_over g) bytes from.office (place remaining from.events) first None
        → from.count ≡ 1
        → Continues (meaning_over g) bytes now.office now.count (place remaining now.events) result
    pub seen : (bytes : Option (List ℕ))
        → IsSeen bytes (place remaining from.events) from.events.at → IfOk result
        (λ _. IsSeen bytes (place remaining now.events) now.events.at
        × IfSome bytes (λ _. (place remaining now.events).left ≡ Some []))
    pub line : now.events.at.line ≡ from.events.at.line
    pub clean : HasCleanDisk (state g now.office) → HasCleanDisk (state g from.office)
