-- What is known of what a program gets from outside.
use Rattle.std.specs.Prelude.{ℕ, List, Bool, Option, Result, ⊤}
use Rattle.std.specs.declared.alloc.AllocError.{AllocError}
use Rattle.std.specs.declared.alloc.Global.{Global}
use Rattle.std.specs.declared.io.Error.{Error}
use Rattle.std.specs.declared.net.socket_addr.SocketAddr.{SocketAddr}
use Rattle.std.specs.declared.net.tcp.TcpListener.{TcpListener}
use Rattle.std.specs.declared.path.buf.PathBuf.{PathBuf}
use Rattle.std.specs.declared.time.Duration.{Duration}
use Rattle.sqlite.specs.Held.{Held}
use Rattle.sqlite.specs.Store.{Ghosts}
use Rattle.sqlite_disk.specs.declared.Disk.{Ghosts as DiskGhosts}
use Rattle.command_host.specs.declared.databases.Databases as databases
use Rattle.command_host.specs.declared.no_file.NoFile.{NoFile}
use Rattle.command_host.specs.declared.place.Stamp.{Stamp}

-- Of a store, of the databases over it, and of which type is what a closed one stands in; of files as
-- they are opened, of what a call of read gives of one, and of their bytes; of the file of a journal as
-- a disk, and of such files as they are made, opened and removed; of a network as its clock is read, as
-- it binds, and as it tells where it listens; of files as it is asked where a database lies and how a
-- file is; and of journals as they are compared with databases.
pub record Known (S D F L N : Type 0) : Type 1 where
  pub store : Ghosts S
  pub Closed : Type 0
  pub databases : databases.Ghosts D (Held S) Closed
  pub opens : List ℕ → Result F Error → Type 0
  pub gives : F → F → Result ℕ Error → List ℕ → Type 0
  pub bytes_of : F → Option (List ℕ)
  pub log : DiskGhosts L
  pub creates : List ℕ → Result L NoFile → Type 0
  pub finds : List ℕ → Result L NoFile → Type 0
  pub removes : List ℕ → L → Result ⊤ Error → Type 0
  pub shows : N → Result Duration Error → Type 0
  pub binds : N → SocketAddr → Result TcpListener Error → Type 0
  pub tells : N → TcpListener → Result SocketAddr Error → Type 0
  pub places : List ℕ → Result (PathBuf Global) Error → Type 0
  pub stamps : List ℕ → Option Stamp → Type 0
  pub compares : (journal database : List ℕ) → Result Bool AllocError → Type 0

-- all of it being known is no claim: it stands in the type of what a program gets from outside
abbrev pub AreKnown : {S D F J L N M C : Type 1} {R : Type 0}
    → S → D → F → R → J → L → N → M → C → Type 0
AreKnown store databases opens bytes_of journals log binds tells shows = Unit {0}
