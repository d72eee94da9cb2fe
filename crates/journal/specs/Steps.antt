-- What is done with one line of a journal that is read as a stream.
use Rattle.std.specs.Prelude.{◌≡◌, ◌+◌, ℕ, [], ◌∷◌, Option, None, Result, Ok, Err}
use Rattle.office_policy.specs.History.{Event}
use Rattle.sealed_log.specs.declared.unreadable.Unreadable.{Unreadable}
use Rattle.journal.specs.declared.events.Step.{Step}
use Rattle.journal.specs.declared.events.Step.TheVariants.{Stands, Passed, Ended}
use Rattle.journal.specs.Told.{Ends, GoesOn, Place, Stops, placed_meant}
use Rattle.journal.specs.Told.{standing}

-- the event that was held back stands, where one was, at the line of this number
abbrev pub IsLast : ℕ → Option Event → Step → Type 0
IsLast number held (Stands placed) = standing number held ≡ placed_meant placed ∷ []
IsLast number held Passed = ⊥
IsLast number held Ended = held ≡ None

-- a line is taken, by which an event stands or none does; the held event stands at the end, or
-- nothing is left
abbrev pub Steps : Place → Place → Result Step Unreadable → Type 0
Steps old new (Ok (Stands placed)) = GoesOn old new (placed_meant placed ∷ [])
Steps old new (Ok Passed) = GoesOn old new [] × (new.taken ≡ old.taken + 1)
Steps old new (Ok Ended) = Ends old new
Steps old new (Err fault) = Stops old new.taken fault
