-- What serving over HTTP does.
use Rattle.std.specs.Prelude.{◌≡◌, ◌⊎◌, ◌≤◌, ◌*◌, ℕ, List, ◌++◌, codes, decimal, length}
use Rattle.std.specs.Prelude.{Option, Result, Ok, Err}
use Rattle.std.specs.declared.io.Error.{Error}
use Rattle.std.specs.declared.net.socket_addr.SocketAddr.{SocketAddr}
use Rattle.std.specs.declared.net.tcp.TcpListener.{TcpListener}
use Rattle.std.specs.declared.time.Duration.{Duration}
use Rattle.std.specs.Duration.{as_nanos}
use Rattle.std.specs.Net.Socket.{socket_ip, socket_port}
use Rattle.command_line.specs.Meaning.{exchanges_of}
use Rattle.command_line.specs.declared.command.ServeWords.{ServeWords}
use Rattle.office_policy.specs.Meaning.{Meaning}
use Rattle.streams.specs.declared.counted.Counted.{Counted}
use Rattle.streams.specs.declared.whole.WriteFailed.{WriteFailed}
use Rattle.desk_http.specs.Exchanged.{HaveExchanged}
use Rattle.desk_http.specs.Lasting.{HasServedWithin}
use Rattle.desk_http.specs.Lines.{IsCut, IsWhole}
use Rattle.desk_http.specs.declared.fault.HttpFault.{HttpFault}
use Rattle.desk_http.specs.declared.served.Served.{Served}
use Rattle.command_host.specs.declared.fault.CommandFault.{CommandFault}
use Rattle.command_host.specs.declared.fault.CommandFault.TheVariants as fault
use Rattle.command_host.specs.Networks.{IsLoopback}
use Rattle.no_memory.specs.Witness.{witness}

-- an exchange lasts ten seconds at most
abbrev pub longest_exchange : ℕ
longest_exchange = 10 * 1_000_000_000

-- the line that says at which port it listens
abbrev pub listening_line : ℕ → List ℕ
listening_line port = codes "listening 127.0.0.1:" ++ decimal port ++ codes "\n"

-- at most so many exchanges were handled, one after the other
abbrev pub HasServedUpTo : {X : Type 0} → Meaning X → X → X → ℕ → Type 0
HasServedUpTo m old new most =
    (results : List (Result Served HttpFault)) × HaveExchanged m old new results
    × (length results ≤ most)

-- a network listens at this port of loopback
pub record IsAt {N : Type 0} (Binds : N → SocketAddr → Result TcpListener Error → Type 0)
    (port : ℕ) (network : N) (listener : TcpListener) : Type 0 where
  pub address : SocketAddr
  pub is_loopback : IsLoopback (socket_ip address)
  pub has_port : socket_port address ≡ port
  pub bound : Binds network address (Ok listener)

-- a network tells that something listens at this port
abbrev pub IsTellingPort : {N : Type 0} → (N → TcpListener → Result SocketAddr Error → Type 0)
    → N → TcpListener → ℕ → Type 0
IsTellingPort Tells network listener port =
    (address : SocketAddr) × Tells network listener (Ok address) × (port ≡ socket_port address)

-- of what is known of a network as it listens at an address, and tells where something listens
module _ {N : Type 0} (Binds : N → SocketAddr → Result TcpListener Error → Type 0)
    (Tells : N → TcpListener → Result SocketAddr Error → Type 0) where
  -- a network couldn't listen at this port of loopback, or couldn't tell where something listens
  abbrev pub CouldNotListen : (port : ℕ) (network : N) → Type 0
  CouldNotListen port network =
      ((address : SocketAddr) × IsLoopback (socket_ip address) × (socket_port address ≡ port)
      × ((error : Error) × Binds network address (Err error)))
      ⊎ ((listener : TcpListener) × ((error : Error) × Tells network listener (Err error)))

  -- nothing listens, since a network couldn't, or there is no memory
  abbrev pub IsUnbound : (port : ℕ) (network : N) → CommandFault → Type 0
  IsUnbound port network why =
      ((why ≡ fault.Bind) × CouldNotListen port network) ⊎ (why ≡ fault.NoMemory witness)

module _ {N O X : Type 0} (Shows : N → Result Duration Error → Type 0)
    (Binds : N → SocketAddr → Result TcpListener Error → Type 0)
    (Tells : N → TcpListener → Result SocketAddr Error → Type 0)
    (contents : O → Option (List ℕ)) (m : Meaning X) (words : ServeWords)
    (old new : X) (output wrote : Counted O) where
  -- A network listened at the port of loopback that the words name, and the port that it tells was
  -- said. Exchanges were served over the streams of what listens, by the network's clock and each
  -- for at most the longest time, as many as the words ask for; and just a line for each was
  -- written. That came to this.
  pub record HasListened (result : Result (Unit {0}) WriteFailed) : Type 0 where
    pub network : N
    pub listener : TcpListener
    pub listens : IsAt Binds words.port network listener
    pub shown : ℕ
    pub told : IsTellingPort Tells network listener shown
    pub between : Counted O
    pub said : IsWhole contents output between (listening_line shown)
    pub longest : Duration
    pub lasts : as_nanos longest ≡ longest_exchange
    pub served : HasServedWithin Shows contents network listener longest m old new between wrote
        (exchanges_of words.requests) result

  -- nothing was served, and of the line that says at which port it listens only a part was written
  abbrev pub IsUnsaid : Type 0
  IsUnsaid = (new ≡ old) × (shown : ℕ) × IsCut contents output wrote (listening_line shown)

  -- what is told of serving: all was served; or nothing listens, and nothing was served or
  -- written; or a line couldn't be written
  abbrev pub IsTold : Result (Unit {0}) CommandFault → Type 0
  IsTold (Ok done) = HasListened (Ok (tt {0}))
  IsTold (Err why) =
      (((network : N) × IsUnbound Binds Tells words.port network why)
      × (new ≡ old) × (wrote ≡ output))
      ⊎ ((why ≡ fault.Write)
      × (IsUnsaid ⊎ ((failed : WriteFailed) × HasListened (Err failed))))

  -- the office was served so, and left by at most as many exchanges as the words ask for
  pub record IsServing (result : Result (Unit {0}) CommandFault) : Type 0 where
    pub exchanges : HasServedUpTo m old new (exchanges_of words.requests)
    pub told : IsTold result
