-- What was taken of a journal when its visitor is called.
use Rattle.std.specs.Prelude.{◌≡◌, ◌+◌, ◌-◌, ◌^◌, ◌<◌, [], ◌∷◌, ℕ, List, Option, None}
use Rattle.office_policy.specs.History.{Event}
use Rattle.journal.specs.SealsAt.{IsSeen}
use Rattle.journal.specs.Told.{Ends, GoesOn, place}
use Rattle.journal_faults.specs.declared.refused.Refused.{Refused}
use Rattle.journal_office.specs.declared.replay.Replay.{Replay}
use Rattle.journal_office.specs.Steps.{IsLeft}

module _ {S R : Type 0} (remaining : R → Option (List ℕ)) (old new : Replay S R) where
  -- the office is the same; the seal that is asked for is kept of what was taken, if it was before
  pub record HasRead : Type 0 where
    pub office : new.office ≡ old.office
    pub seen : (bytes : Option (List ℕ))
        → IsSeen bytes (place remaining old.events) old.events.at
        → IsSeen bytes (place remaining new.events) new.events.at
    pub line : new.events.at.line ≡ old.events.at.line

  -- the next event was taken, which hasn't happened again yet
  pub record HasTaken (placed : ℕ × Event) : Type 0 where
    pub read : HasRead
    pub told : GoesOn (place remaining old.events) (place remaining new.events) (placed ∷ [])
    pub fault : new.events.fault ≡ None
    pub counted : new.count ≡ old.count + 1
    pub few : old.count < 2 ^ 64 - 1

  -- no event is left
  pub record HasEnded : Type 0 where
    pub read : HasRead
    pub ends : Ends (place remaining old.events) (place remaining new.events)
    pub counted : new.count ≡ old.count

  -- the journal can't be read on
  pub record HasStopped (refused : Refused) : Type 0 where
    pub office : new.office ≡ old.office
    pub line : new.events.at.line ≡ old.events.at.line
    pub left : IsLeft (place remaining old.events) (place remaining new.events)
        refused.line refused.why
