-- What may become of something that is served, and networks that listen at one port.
use Rattle.std.specs.Prelude.{◌≡◌, ℕ, Result, Ok, Err, ⊤}
use Rattle.std.specs.declared.io.Error.{Error}
use Rattle.std.specs.declared.net.socket_addr.SocketAddr.{SocketAddr}
use Rattle.std.specs.declared.net.tcp.TcpListener.{TcpListener}
use Rattle.std.specs.Net.Socket.{socket_port}

-- it becomes this
abbrev pub becomes : {X : Type 0} → X → (old new : X) → Type 0
becomes this old new = new ≡ this

-- it becomes this, and stops for this alone
abbrev pub stops_for : {W X : Type 0} → W → X → W → (old new : X) → Type 0
stops_for reason this why old new = (why ≡ reason) × (new ≡ this)

-- it never stops
abbrev pub never_stops : {W X : Type 0} → W → (old new : X) → Type 0
never_stops why old new = ⊥

-- nothing is done
abbrev pub never_done : {X : Type 0} → (old new : X) → Type 0
never_done old new = ⊥

-- what listens of a network does at this port alone
abbrev pub listens_at : (port network : ℕ) → SocketAddr → Result TcpListener Error → Type 0
listens_at port network address (Ok listener) = socket_port address ≡ port
listens_at port network address (Err e) = ⊤
