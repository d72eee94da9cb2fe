-- Until when a stream is read and written, by what a clock shows.
use Rattle.std.specs.Prelude.{◌≡◌, ◌⊎◌, ◌+◌, ◌<◌, ◌≤◌, ℕ, Result, Ok, Err}
use Rattle.std.specs.Duration.{as_nanos, FitsDuration}
use Rattle.std.specs.IoError.{error_kind}
use Rattle.std.specs.declared.io.Error.{Error}
use Rattle.std.specs.declared.io.ErrorKind.TheVariants.{InvalidInput, TimedOut}
use Rattle.std.specs.declared.time.Duration.{Duration}

module _ (Shows : Result Duration Error → Type 0) where
  -- the moment that is so long after one that the clock showed
  abbrev pub EndsAfter : (length end : Duration) → Type 0
  EndsAfter length end =
      (now : Duration) × Shows (Ok now) × (as_nanos end ≡ as_nanos now + as_nanos length)

  -- no moment is so many nanoseconds after now: the clock failed, or can't count so far
  abbrev pub HasNoEnd : (nanos : ℕ) → Error → Type 0
  HasNoEnd nanos e = Shows (Err e) ⊎ ((now : Duration) × Shows (Ok now)
      × (FitsDuration (as_nanos now + nanos) → ⊥) × (error_kind e ≡ InvalidInput))

  -- how long it is from what the clock shows until then, which is never nothing; or the clock
  -- failed, or shows that moment or a later one
  abbrev pub IsLeft : Duration → Result Duration Error → Type 0
  IsLeft end (Ok left) =
      (now : Duration) × Shows (Ok now) × (as_nanos now + as_nanos left ≡ as_nanos end)
      × (0 < as_nanos left)
  IsLeft end (Err e) = Shows (Err e) ⊎ ((now : Duration) × Shows (Ok now)
      × (as_nanos end ≤ as_nanos now) × (error_kind e ≡ TimedOut))

-- a call may wait just as long as is left; or none is made, for none is left or that can't be set, and
-- all is the same
abbrev pub IsTimed : {A : Type 0} → (Left : Result Duration Error → Type 0)
    → (Waits : Duration → Result (Unit {0}) Error → Type 0) → (Gives : Result A Error → Type 0)
    → (Same : Type 0) → Result A Error → Type 0
IsTimed Left Waits Gives Same result =
    ((left : Duration) × Left (Ok left) × Waits left (Ok tt) × Gives result)
    ⊎ ((e : Error) × (result ≡ Err e) × Same
    × (Left (Err e) ⊎ ((left : Duration) × Left (Ok left) × Waits left (Err e))))
