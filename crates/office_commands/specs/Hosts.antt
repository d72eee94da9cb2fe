-- What is known of a host: of one, by its parts, and of the one that the program runs on.
use Rattle.std.specs.Prelude.{ℕ, List, [], Option, true, ⊤}
use Rattle.sqlite.specs.Files.{over_files}
use Rattle.sqlite.specs.Held.{Held}
use Rattle.sqlite.specs.Store.{Ghosts}
use Rattle.sqlite.specs.declared.FileStore.{FileStore}
use Rattle.sqlite_disk.specs.declared.Disk as disk
use Rattle.sqlite_disk.specs.declared.Start as start
use Rattle.sqlite_disk.specs.declared.modelled.Modelled.{Modelled}
use Rattle.sqlite_std_file.specs.contracts.host.HostCalls.TheImpl.{ghosts as host_calls}
use Rattle.sqlite_std_file.specs.declared.host.Host.{Host}
use Rattle.sqlite_wal.specs.Files.{image_at}
use Rattle.database_files.specs.declared.disk.NamedDisk.{NamedDisk}
use Rattle.desk_http.specs.declared.clock.PassClock as clock
use Rattle.command_host.specs.HostFiles.{IsClosedInto, IsFoundIn}
use Rattle.command_host.specs.Known.{Known}
use Rattle.command_host.specs.declared.databases.Databases as databases
use Rattle.command_host.specs.declared.files.PassFiles as files
use Rattle.command_host.specs.declared.host_files.ClosedFiles.{ClosedFiles}
use Rattle.command_host.specs.declared.host_files.HostFiles.{HostFiles}
use Rattle.command_host.specs.declared.host_files.UnknownFiles.{UnknownFiles}
use Rattle.command_host.specs.declared.host_name.HostName.{HostName}
use Rattle.command_host.specs.declared.journals.Journals as journals
use Rattle.command_host.specs.declared.network.PassNet as net

-- what is known of a store and the databases over it, of files, of journals and their files as disks, and of a
-- network and its clock
abbrev pub known_of : {S D C F J N I R L : Type 0} → Ghosts S → databases.Ghosts D (Held S) C
    → files.Ghosts F I R → (bytes_of : I → Option (List ℕ)) → F → journals.Ghosts J L → disk.Ghosts L → J
    → net.Ghosts N → clock.Ghosts N → Known S D I L N
known_of {C = C} store databases f bytes_of files j log journals n c = record {
  store = store;
  Closed = C;
  databases = databases;
  opens = f.opens files;
  gives = f.gives;
  bytes_of = bytes_of;
  log = log;
  creates = j.creates journals;
  finds = j.opens journals;
  removes = j.removes journals;
  shows = c.shows;
  binds = n.binds;
  tells = n.tells;
  places = f.places files;
  stamps = f.stamps files;
  compares = j.compares journals;
}

-- what is held by files of whose contents nothing is known
abbrev pub unknown : start.Ghosts UnknownFiles
unknown = record { log = []; db = []; is_mixing = true }

-- a file of a database or of a journal, which held this as it was opened
abbrev pub HostFile : {T : Type 0} → start.Ghosts T → Type 0
HostFile {T} held = NamedDisk (Modelled Host T host_calls held) HostName

module _ {T U : Type 0} (held : start.Ghosts T) (journal : start.Ghosts U)
    (g : disk.Ghosts (HostFile held)) (log : disk.Ghosts (HostFile journal)) where
  -- what is known of databases in such files: they show what these held, and a close gives back files
  -- that have all of it
  abbrev pub host_databases
      : databases.Ghosts (HostFiles T) (Held (FileStore (HostFile held) g)) (ClosedFiles T held)
  host_databases = record {
    sees = λ path is. ⊤;
    marked = λ path mark. ⊤;
    opened = λ path. IsFoundIn (image_at held);
    refused = λ path error. ⊤;
    closed = λ conn mark given. IsClosedInto conn mark given.files;
    ended = λ database mark told. ⊤;
  }

  -- what is known of the host, by what its files held, and of the files that are read there. Of its journals, its
  -- network and its clock that is only that they were called.
  abbrev pub known_here : {F I R N : Type 0} → files.Ghosts F I R → (bytes_of : I → Option (List ℕ)) → F → N
      → Known (FileStore (HostFile held) g) (HostFiles T) I (HostFile journal) N
  known_here f bytes_of files network = record {
    store = over_files;
    Closed = ClosedFiles T held;
    databases = host_databases;
    opens = f.opens files;
    gives = f.gives;
    bytes_of = bytes_of;
    log = log;
    creates = λ path made. ⊤;
    finds = λ path found. ⊤;
    removes = λ path file removed. ⊤;
    shows = λ clock told. ⊤;
    binds = λ network address bound. ⊤;
    tells = λ network listener told. ⊤;
    places = f.places files;
    stamps = f.stamps files;
    compares = λ path database told. ⊤;
  }
