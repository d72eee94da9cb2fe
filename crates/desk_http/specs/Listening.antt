-- What a listener means, and exchanges over the streams that it hands out.
use Rattle.std.specs.Prelude.{◌≡◌, ◌⊎◌, ◌≤◌, ℕ, List, [], ◌∷◌, length, Option, Result, Ok, Err}
use Rattle.std.specs.declared.io.Error.{Error}
use Rattle.office_policy.specs.Meaning.{Meaning}
use Rattle.office_policy.specs.Handled.{IsHandled}
use Rattle.streams.specs.declared.counted.Counted.{Counted}
use Rattle.streams.specs.declared.whole.WriteFailed.{WriteFailed}
use Rattle.desk_http.specs.Exchanged.{HaveExchanged}
use Rattle.desk_http.specs.Lines.{AreLined}
use Rattle.desk_http.specs.Served.{IsServed, ReadCounts, TellCounts}
use Rattle.desk_http.specs.declared.fault.HttpFault.{HttpFault}
use Rattle.desk_http.specs.declared.fault.HttpFault.TheVariants as fault
use Rattle.desk_http.specs.declared.listener.Stream.{Stream}
use Rattle.desk_http.specs.declared.serve.TheConstants.{MAX_READS}
use Rattle.desk_http.specs.declared.served.Served.{Served}

-- what is meant by a listener
pub record Listening (N Reader Writer : Type 0) : Type 1 where
  -- by a call of accept the first became the second, and handed this stream out, or failed
  pub hands_out : (old new : N) → Result (Stream Reader Writer) Error → Type 0
  -- by taking back a stream that is now so, after an exchange that came to this
  pub takes_back : (old new : N) → Counted Reader → Counted Writer → Result Served HttpFault → Type 0

-- the exchanges are as many as were asked for; or no more, where a line couldn't be written
abbrev pub AreSoMany : (count most : ℕ) → Result (Unit {0}) WriteFailed → Type 0
AreSoMany count most (Ok done) = count ≡ most
AreSoMany count most (Err failed) = count ≤ most

-- over streams of which these bytes are known
module _ {N Reader Writer X : Type 0} (l : Listening N Reader Writer)
    (remaining : Reader → Option (List ℕ)) (contents : Writer → Option (List ℕ))
    (m : Meaning X) where
  module _ (before after : N) (old new : X) (result : Result Served HttpFault) where
    -- over this stream was one exchange, which came to this; and it was taken back as that left it
    pub record IsOver (stream : Stream Reader Writer) : Type 0 where
      pub reader : Counted Reader
      pub writer : Counted Writer
      pub served : IsServed (new ≡ old) (IsHandled m old new)
          (remaining stream.reader) (remaining reader.inner)
          (contents stream.writer) (contents writer.inner) result
      pub read : ReadCounts 0 reader.calls MAX_READS 0 reader.faults result
      pub wrote : TellCounts 0 writer.faults result
      pub taken : l.takes_back before after reader writer result

  -- a stream was handed out, with one exchange over it; or none could be, and nothing was handled
  abbrev pub IsNext : (before after : N) (old new : X) → Result Served HttpFault → Type 0
  IsNext before after old new result =
      ((between : N) × (stream : Stream Reader Writer) × l.hands_out before between (Ok stream)
      × IsOver between after old new result stream)
      ⊎ ((e : Error) × l.hands_out before after (Err e) × (result ≡ Err fault.Read) × (new ≡ old))

  -- exchanges one after the other, each over the next stream, came to these
  abbrev pub AreServedOver : (before after : N) (old new : X) → List (Result Served HttpFault) → Type 0
  AreServedOver before after old new [] = (after ≡ before) × (new ≡ old)
  AreServedOver before after old new (r ∷ results) =
      (between : N) × (was : X) × IsNext before between old was r
      × AreServedOver between after was new results

  -- exchanges, each over the next stream, came to these, and each left what it came to
  pub record HaveServed (before after : N) (old new : X)
      (results : List (Result Served HttpFault)) : Type 0 where
    pub over : AreServedOver before after old new results
    pub exchanged : HaveExchanged m old new results

  -- the exchanges were as many as were asked for, with just a line for each; or a line couldn't be
  -- written, which ended them
  pub record AreServedWith {O : Type 0} (holds : O → Option (List ℕ)) (before after : N)
      (old new : X) (output wrote : Counted O) (most : ℕ)
      (result : Result (Unit {0}) WriteFailed) : Type 0 where
    pub results : List (Result Served HttpFault)
    pub served : HaveServed before after old new results
    pub count : AreSoMany (length results) most result
    pub lined : AreLined holds output wrote results result
