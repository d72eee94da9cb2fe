-- What was taken of a stream by reads.
use Rattle.std.proofs.Common.{◌≡◌, ◌∙◌, ℕ, ◌+◌, ◌<◌, List, Result, Ok, add-one, ap, inl, inr, refl, subst, sym}
use Rattle.std.specs.Duration.{as_nanos}
use Rattle.std.specs.declared.io.Error.{Error}
use Rattle.std.specs.declared.time.Duration.{Duration}
use Rattle.desk_http.specs.Clocks.{IsLeft, IsTimed}
use Rattle.desk_http.specs.declared.deadline.Deadline.{Deadline}
use Rattle.desk_http.specs.Endings.{AreReads, GaveNone, HasTaken, IsRead, IsTaken}
use Rattle.desk_http.specs.declared.ending.TheConstants.{MOST_READS}

module _ {T : Type 0} (Waits : T → Duration → Result (Unit {0}) Error → Type 0) (Gives : (old new : T) → Result ℕ Error → List ℕ → Type 0) where
  -- a call by a deadline that is the first one
  pub read_within : {C : Type 0} (Shows : C → Result Duration Error → Type 0) (old new : T) (bytes : List ℕ) (result : Result ℕ Error) (now first : Deadline C) → now ≡ first
      → IsTimed (IsLeft (Shows now.clock.now) now.end) (Waits old) (λ read. Gives old new read bytes) (new ≡ old) result
      → IsRead Waits Gives (IsLeft (Shows first.clock.now) first.end) old new result
  read_within {C} Shows old new bytes result now first same timed =
      (bytes, subst (λ (d : Deadline C). IsTimed (IsLeft (Shows d.clock.now) d.end) (Waits old) (λ read. Gives old new read bytes) (new ≡ old) result) same timed)

  -- what was taken by a deadline that ends a second after a moment of a clock
  pub has_taken : {C : Type 0} (Shows : C → Result Duration Error → Type 0) (Ends : T → Result (Unit {0}) Error → Type 0) (clock here : C) (old stream last new : T)
      (now end until length : Duration) → Ends old (Ok tt) → Shows clock (Ok now) → as_nanos end ≡ as_nanos now + as_nanos length → as_nanos length ≡ 1000000000
      → stream ≡ old → here ≡ clock → until ≡ end → new ≡ last → IsTaken Waits Gives (IsLeft (Shows here) until) MOST_READS stream last
      → HasTaken Waits Gives (Shows clock) Ends old new
  has_taken {C} Shows Ends clock here old stream last new now end until length ended shows is second same by at left taken =
      let by_clock = subst (λ (x : C). IsTaken Waits Gives (IsLeft (Shows x) until) MOST_READS stream last) by taken in
      let at_end = subst (λ (d : Duration). IsTaken Waits Gives (IsLeft (Shows clock) d) MOST_READS stream last) at by_clock in
      let of_old = subst (λ (s : T). IsTaken Waits Gives (IsLeft (Shows clock) end) MOST_READS s last) same at_end in
      let to_new = subst (λ (s : T). IsTaken Waits Gives (IsLeft (Shows clock) end) MOST_READS old s) (sym left) of_old in
      inl (ended, (now, end, shows, is ∙ ap (λ n. as_nanos now + n) second, to_new))

module _ {T : Type 0} (Waits : T → Duration → Result (Unit {0}) Error → Type 0) (Gives : (old new : T) → Result ℕ Error → List ℕ → Type 0)
    (Left : Result Duration Error → Type 0) where
  pub reads_none : (first : T) → AreReads Waits Gives Left 0 first first
  unfolding AreReads
  reads_none first = refl

  pub reads_more : (count : ℕ) (first was last : T) (result : Result ℕ Error) → AreReads Waits Gives Left count first was → IsRead Waits Gives Left was last result
      → AreReads Waits Gives Left (count + 1) first last
  unfolding AreReads
  reads_more count first was last result reads read = rw (add-one count) (was, reads, (result, read))

  -- no more came
  pub taken_whole : (count most : ℕ) (first was last : T) (result : Result ℕ Error) → AreReads Waits Gives Left count first was → count < most → GaveNone result
      → IsRead Waits Gives Left was last result → IsTaken Waits Gives Left most first last
  taken_whole count most first was last result reads less none read = record { count = count; was = was; reads = reads; ended = inr (less, (result, none, read)) }

  -- there were as many reads as are allowed
  pub taken_most : (count most : ℕ) (first last : T) → AreReads Waits Gives Left count first last → count ≡ most → IsTaken Waits Gives Left most first last
  taken_most count most first last reads all = record { count = count; was = last; reads = reads; ended = inl (all, refl) }
