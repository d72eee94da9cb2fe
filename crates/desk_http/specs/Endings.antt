-- What is taken of a client that may still be sending, once its response has ended.
use Rattle.std.specs.Prelude.{◌≡◌, ◌⊎◌, ◌+◌, ◌<◌, ℕ, zero, suc, List, Bool, true, false}
use Rattle.std.specs.Prelude.{Result, Ok, Err}
use Rattle.std.specs.Duration.{as_nanos}
use Rattle.std.specs.declared.io.Error.{Error}
use Rattle.std.specs.declared.time.Duration.{Duration}
use Rattle.desk_http.specs.Clocks.{HasNoEnd, IsLeft, IsTimed}
use Rattle.desk_http.specs.declared.ending.TheConstants.{MOST_READS}
use Rattle.desk_http.specs.declared.fault.HttpFault.{HttpFault}
use Rattle.desk_http.specs.declared.served.Served.{Served}

-- a read gave no byte: none is left, or it failed
abbrev pub GaveNone : Result ℕ Error → Type 0
GaveNone (Ok count) = count ≡ 0
GaveNone (Err e) = Unit {0}

-- of streams of which this is known as reads of them may wait, and as they are read
module _ {T : Type 0} (Waits : T → Duration → Result (Unit {0}) Error → Type 0)
    (Gives : (old new : T) → Result ℕ Error → List ℕ → Type 0) where
  module _ (Left : Result Duration Error → Type 0) where
    -- a call of read, which could wait no longer than is left, came to this
    abbrev pub IsRead : (old new : T) → Result ℕ Error → Type 0
    IsRead old new result = (bytes : List ℕ)
        × IsTimed Left (Waits old) (λ read. Gives old new read bytes) (new ≡ old) result

    -- by so many such calls the one became the other
    unfoldable pub AreReads : ℕ → (first last : T) → Type 0
    AreReads zero first last = last ≡ first
    AreReads (suc count) first last = (was : T) × AreReads count first was
        × ((result : Result ℕ Error) × IsRead was last result)

    -- what came was taken by such calls: as many as are allowed, or fewer, of which the last gave none
    pub record IsTaken (most : ℕ) (first last : T) : Type 0 where
      pub count : ℕ
      pub was : T
      pub reads : AreReads count first was
      pub ended : ((count ≡ most) × (last ≡ was))
          ⊎ ((count < most) × ((result : Result ℕ Error) × GaveNone result × IsRead was last result))

  -- of a clock, and of streams as it is said that no more is written to them
  module _ (Shows : Result Duration Error → Type 0)
      (Ends : T → Result (Unit {0}) Error → Type 0) where
    -- It was said that the response has ended, and then what the client still sent was taken, within a
    -- second and by 10,000 calls at most. Or nothing was, for the clock failed or can't count a second
    -- on, or that couldn't be said.
    abbrev pub HasTaken : (old new : T) → Type 0
    HasTaken old new =
        (Ends old (Ok tt)
        × ((now end : Duration) × Shows (Ok now) × (as_nanos end ≡ as_nanos now + 1000000000)
        × IsTaken (IsLeft Shows end) MOST_READS old new))
        ⊎ ((new ≡ old) × ((e : Error) × (HasNoEnd Shows 1000000000 e ⊎ Ends old (Err e))))

    abbrev pub TakesIf : (is_unread : Bool) → (old new : T) → Type 0
    TakesIf true old new = HasTaken old new
    TakesIf false old new = new ≡ old

    -- after an exchange that came to this, more was taken of the stream just where bytes of the request
    -- may still come
    abbrev pub HasEnded : Result Served HttpFault → (old new : T) → Type 0
    HasEnded (Ok served) old new = TakesIf served.is_unread old new
    HasEnded (Err fault) old new = new ≡ old
