-- What serving over HTTP left, however it ended.
use Rattle.std.proofs.Common.{◌≡◌, ◌≤◌, ◌∙◌, ℕ, List, [], Option, None, Result, Ok, Err, inl, inr, arith, length, refl, subst, sym}
use Rattle.std.specs.declared.io.Error.{Error}
use Rattle.std.specs.declared.net.socket_addr.SocketAddr.{SocketAddr}
use Rattle.std.specs.declared.net.tcp.TcpListener.{TcpListener}
use Rattle.std.specs.declared.time.Duration.{Duration}
use Rattle.std.specs.Duration.{as_nanos}
use Rattle.command_line.specs.Meaning.{exchanges_of}
use Rattle.command_line.specs.declared.command.ServeWords.{ServeWords}
use Rattle.office_policy.specs.Meaning.{Meaning}
use Rattle.streams.specs.declared.counted.Counted.{Counted}
use Rattle.streams.specs.declared.whole.WriteFailed.{WriteFailed}
use Rattle.desk_http.specs.Lasting.{HasServedWithin, lasting}
use Rattle.desk_http.specs.Lines.{IsCut, IsWhole}
use Rattle.desk_http.specs.Listening.{AreServedWith, AreSoMany}
use Rattle.desk_http.proofs.ExchangedFacts.{none_exchanged}
use Rattle.command_host.specs.declared.fault.CommandFault.{CommandFault}
use Rattle.command_host.specs.declared.fault.CommandFault.TheVariants as fault
use Rattle.changing_commands.specs.Serving.{listening_line, longest_exchange, HasListened}
use Rattle.changing_commands.specs.Serving.{HasServedUpTo, IsAt, IsServing, IsTellingPort, IsUnbound}

-- as many as were served are no more than were asked for
no_more : (count most : ℕ) (result : Result (Unit {0}) WriteFailed) → AreSoMany count most result → count ≤ most
no_more count most (Ok done) is = omega (arith, is)
no_more count most (Err failed) is = is

module _ {X : Type 0} (m : Meaning X) where
  none_up_to : (x y : X) (most : ℕ) → y ≡ x → HasServedUpTo m x y most
  none_up_to x y most same = subst (λ (z : X). HasServedUpTo m x z most) (sym same) ([], none_exchanged m x, omega (arith))

module _ {N O X : Type 0} (Shows : N → Result Duration Error → Type 0) (Binds : N → SocketAddr → Result TcpListener Error → Type 0)
    (Tells : N → TcpListener → Result SocketAddr Error → Type 0)
    (contents : O → Option (List ℕ)) (m : Meaning X) (words : ServeWords) where
  module _ (x : X) (o : Counted O) (why : CommandFault) where
    -- nothing listened
    pub unbound : (network : N) → IsUnbound Binds Tells words.port network why → IsServing Shows Binds Tells contents m words x x o o (Err why)
    unbound network is = record { exchanges = none_up_to m x x (exchanges_of words.requests) refl; told = inl ((network, is), refl, refl) }

    -- where it listens couldn't be said
    pub unsaid : (wrote : Counted O) (shown : ℕ) (text : List ℕ) → text ≡ listening_line shown → why ≡ fault.Write
        → IsCut contents o wrote text → IsServing Shows Binds Tells contents m words x x o wrote (Err why)
    unsaid wrote shown text said is cut = record {
      exchanges = none_up_to m x x (exchanges_of words.requests) refl;
      told = inr (is, inl (refl, shown, subst (λ (t : List ℕ). IsCut contents o wrote t) said cut));
    }

  module _ (old new : X) (output wrote : Counted O) where
    listened : (result : Result (Unit {0}) WriteFailed) → HasListened Shows Binds Tells contents m words old new output wrote result → HasServedUpTo m old new (exchanges_of words.requests)
    listened result it =
        let over = it.served.over in
        (over.results, over.served.exchanged, no_more (length over.results) (exchanges_of words.requests) result over.count)

    -- what listens, what was said of it, and the exchanges over it
    pub listened_by : (network clock : N) (listener : TcpListener) (shown : ℕ) (text : List ℕ) (between : Counted O) (longest chosen : Duration) (most : ℕ)
        (result : Result (Unit {0}) WriteFailed) → IsAt Binds words.port network listener → IsTellingPort Tells network listener shown → text ≡ listening_line shown → IsWhole contents output between text
        → as_nanos chosen ≡ longest_exchange → clock ≡ network → longest ≡ chosen → most ≡ exchanges_of words.requests
        → HasServedWithin Shows contents clock listener longest m old new between wrote most result
        → HasListened Shows Binds Tells contents m words old new output wrote result
    listened_by network clock listener shown text between longest chosen most result at told is said lasts by so many it = record {
      network = network;
      listener = listener;
      listens = at;
      shown = shown;
      told = told;
      between = between;
      said = subst (λ (t : List ℕ). IsWhole contents output between t) is said;
      longest = chosen;
      lasts = lasts;
      served = record {
        before = it.before;
        after = it.after;
        by_clock = it.by_clock ∙ by;
        at_listener = it.at_listener;
        within = it.within ∙ so;
        over = subst (λ (n : ℕ). AreServedWith (lasting Shows) (λ _. None) (λ _. None) m contents it.before it.after old new between wrote n result) many it.over;
      };
    }

    -- all was served
    pub served : HasListened Shows Binds Tells contents m words old new output wrote (Ok (tt {0}))
        → IsServing Shows Binds Tells contents m words old new output wrote (Ok (tt {0}))
    served it = record { exchanges = listened (Ok (tt {0})) it; told = it }

    -- a line couldn't be written
    pub cut_short : (failed : WriteFailed) → HasListened Shows Binds Tells contents m words old new output wrote (Err failed)
        → IsServing Shows Binds Tells contents m words old new output wrote (Err fault.Write)
    cut_short failed it = record { exchanges = listened (Err failed) it; told = inr (refl, inr (failed, it)) }
