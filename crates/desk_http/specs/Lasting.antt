-- A listener whose streams last only so long.
use Rattle.std.specs.Prelude.{◌≡◌, ℕ, List, None, Option, IfOk, Result}
use Rattle.std.specs.declared.io.Error.{Error}
use Rattle.std.specs.declared.net.tcp.TcpListener.{TcpListener}
use Rattle.std.specs.declared.net.tcp.TcpStream.{TcpStream}
use Rattle.std.specs.declared.time.Duration.{Duration}
use Rattle.office_policy.specs.Meaning.{Meaning}
use Rattle.streams.specs.declared.counted.Counted.{Counted}
use Rattle.streams.specs.declared.whole.WriteFailed.{WriteFailed}
use Rattle.desk_http.specs.Clocks.{EndsAfter}
use Rattle.desk_http.specs.Listening.{AreServedWith, Listening}
use Rattle.desk_http.specs.declared.timed.Timed.{Timed}
use Rattle.desk_http.specs.declared.timed_listener.TimedListener.{TimedListener}

module _ {C : Type 0} (Shows : C → Result Duration Error → Type 0) where
  -- a stream ends so long after the listener's clock showed a moment, by that clock
  abbrev pub IsUntil : TimedListener C → Timed C TcpStream → Type 0
  IsUntil listener stream =
      (stream.deadline.clock.now ≡ listener.clock.now)
      × EndsAfter (Shows listener.clock.now) listener.longest stream.deadline.end

  -- each stream that it hands out does, in both directions
  abbrev pub lasting : Listening (TimedListener C) (Timed C TcpStream) (Timed C TcpStream)
  lasting = record {
    hands_out = λ old new result. (new ≡ old)
        × IfOk result (λ stream. IsUntil old stream.reader × IsUntil old stream.writer);
    takes_back = λ old new reader writer served. new ≡ old;
  }

  -- exchanges were served over the streams of this listener, each by this clock and for at most so
  -- long
  pub record HasServedWithin {O X : Type 0} (holds : O → Option (List ℕ)) (clock : C)
      (listener : TcpListener) (longest : Duration) (m : Meaning X) (old new : X)
      (output wrote : Counted O) (most : ℕ) (result : Result (Unit {0}) WriteFailed) : Type 0 where
    pub before : TimedListener C
    pub after : TimedListener C
    pub by_clock : before.clock.now ≡ clock
    pub at_listener : before.listener.now ≡ listener
    pub within : before.longest ≡ longest
    pub over : AreServedWith lasting (λ _. None) (λ _. None) m holds before after old new
        output wrote most result
