-- Small values by which definitions of the edges are tried: disks that count calls that failed, a
-- stream that is how much of it is still to come, clocks, files and writers that are their bytes, and
-- networks.
use Rattle.std.specs.Prelude.{◌≡◌, ◌≢◌, ◌⊎◌, ◌-◌, ℕ, min, List, [], ◌∷◌, codes, Option, Some, Result, Ok, Err, ⊤}
use Rattle.std.specs.declared.io.Error.{Error}
use Rattle.std.specs.declared.net.socket_addr.SocketAddr.{SocketAddr}
use Rattle.std.specs.declared.net.socket_addr.SocketAddr.TheVariants.{V4}
use Rattle.std.specs.declared.net.tcp.TcpListener.{TcpListener}
use Rattle.std.specs.declared.time.Duration.{Duration}
use Rattle.sqlite_disk.specs.Disk.{MoreFaults}
use Rattle.sqlite_disk.specs.declared.Disk.{Ghosts as DiskGhosts}
use Rattle.streams.specs.declared.counted.Counted.{Counted}
use Rattle.sealed_log.specs.declared.unreadable.Unreadable.{Unreadable}
use Rattle.journal_faults.specs.declared.refused.Refused.{Refused}
use Rattle.journal_faults.specs.declared.refused.Why.TheVariants.{Unread}
use Rattle.changing_commands.specs.declared.founding.Founding.{Founding}
use Rattle.example_tests.specs.Examples.{desk, digest, root}
use Rattle.example_tests.specs.JournalExamples.{refused_at}

-- just this comes of a call
abbrev pub just : {A : Type 0} → A → A → Type 0
just what came = came ≡ what

-- a call doesn't fail
abbrev pub works : {A : Type 0} → Result A Error → Type 0
works (Ok what) = ⊤
works (Err e) = ⊥

-- ---- a disk

-- so many calls of a disk have failed, and so many of them for want of room
pub record HasCounted {D : Type 0} (g : DiskGhosts D) (disk : D) (faults refused : ℕ) : Type 0 where
  pub failed : g.faults disk ≡ faults
  pub for_room : (g.tally_of disk).refused ≡ refused

-- each call of such disks that fails does for want of room
abbrev pub FailsForRoomAlone : {D : Type 0} → DiskGhosts D → Type 0
FailsForRoomAlone {D} g = (before after : D) → MoreFaults (g.faults before) (g.faults after)
    → MoreFaults (g.tally_of before).refused (g.tally_of after).refused

-- ---- a stream, which is how many bytes of it are still to come

-- each call of read gives one, while there are any, and none fails
abbrev pub gives_one : (old new : ℕ) → Result ℕ Error → List ℕ → Type 0
gives_one old new result bytes = (new ≡ old - 1) × (result ≡ Ok (min old 1))

-- it can always be set how long a call may wait; or just so long; or it can't be, for this
abbrev pub waits : (stream : ℕ) → Duration → Result ⊤ Error → Type 0
waits stream left = just (Ok tt)

abbrev pub waits_for : Duration → (stream : ℕ) → Duration → Result ⊤ Error → Type 0
waits_for length stream left came = (left ≡ length) × (came ≡ Ok tt)

abbrev pub never_set : Error → (stream : ℕ) → Duration → Result ⊤ Error → Type 0
never_set e stream left = just (Err e)

-- it is said that no more is written to it; or that can't be said, for this
abbrev pub said : (stream : ℕ) → Result ⊤ Error → Type 0
said stream = just (Ok tt)

abbrev pub unsaid : Error → (stream : ℕ) → Result ⊤ Error → Type 0
unsaid e stream = just (Err e)

-- ---- a clock

-- the moment that is so many seconds and nanoseconds behind its first
abbrev pub moment : (secs nanos : ℕ) → Duration
moment secs nanos = record { secs = secs; nanos = nanos }

-- it shows this moment alone; or one of two
abbrev pub at_five : Result Duration Error → Type 0
at_five = just (Ok (moment 5 0))

abbrev pub shows_either : (first second : Duration) → Result Duration Error → Type 0
shows_either first second shown = (shown ≡ Ok first) ⊎ (shown ≡ Ok second)

-- ---- a file, which is its bytes

-- no call of read fails; or each does, with this error
abbrev pub never_fails : (old new : List ℕ) → Result ℕ Error → List ℕ → Type 0
never_fails old new result bytes = works result

abbrev pub fails : Error → (old new : List ℕ) → Result ℕ Error → List ℕ → Type 0
fails e old new result bytes = result ≡ Err e

-- two words that name files
abbrev pub base : List ℕ
base = codes "base"

abbrev pub new : List ℕ
new = codes "new"

-- a file with these bytes can be opened at this path, and none elsewhere
abbrev pub file_at : (path bytes : List ℕ) → (asked : List ℕ) → Result (List ℕ) Error → Type 0
file_at path bytes asked (Ok file) = (asked ≡ path) × (file ≡ bytes)
file_at path bytes asked (Err e) = asked ≢ path

-- a journal isn't read on at its second line, for this
abbrev pub unread : Unreadable → Refused
unread fault = refused_at 2 (Unread fault)

-- ---- a writer, which is what was written

abbrev pub written : List ℕ → Option (List ℕ)
written bytes = Some bytes

-- it wrote this, and so many of its calls failed
abbrev pub wrote : List ℕ → (faults : ℕ) → Counted (List ℕ)
wrote bytes faults = record { inner = bytes; calls = 0; faults = faults }

-- ---- a network, which has a number

-- this port of 127.0.0.1
abbrev pub loopback : (port : ℕ) → SocketAddr
loopback port = V4 (record { ip = record { octets = 127 ∷ 0 ∷ 0 ∷ 1 ∷ [] }; port = port })

-- it can listen at any address but those of which this holds
abbrev pub listens_but : (SocketAddr → Type 0) → (network : ℕ) → SocketAddr
    → Result TcpListener Error → Type 0
listens_but IsBarred network address (Ok listener) = ⊤
listens_but IsBarred network address (Err e) = IsBarred address

-- it can always tell where something listens; or it can't, for this
abbrev pub tells : (network : ℕ) → TcpListener → Result SocketAddr Error → Type 0
tells network listener = works

abbrev pub untold : Error → (network : ℕ) → TcpListener → Result SocketAddr Error → Type 0
untold e network listener = just (Err e)

-- ---- a founding

-- that by root, with these listed capabilities
abbrev pub founding_with : (listed : ℕ) → Founding
founding_with listed = record { name = root; team = desk; digest = digest; listed = listed }
