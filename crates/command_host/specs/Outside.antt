-- What a program gets from outside, as one value, and what is known of it.
use Rattle.std.specs.declared.fd.AsRawFd as raw
use Rattle.std.specs.declared.io.traits.Read as read
use Rattle.std.specs.declared.io.traits.Seek as seek
use Rattle.std.specs.declared.io.traits.Write as write
use Rattle.std.specs.declared.net.tcp.TcpListener.{TcpListener}
use Rattle.std.specs.declared.net.tcp.TcpStream.{TcpStream}
use Rattle.sqlite.specs.Held.{Held}
use Rattle.sqlite.specs.Store.{Ghosts}
use Rattle.sqlite_disk.specs.declared.Disk as disk
use Rattle.desk_http.specs.declared.clock.PassClock as clock
use Rattle.command_host.specs.declared.databases.Databases as databases
use Rattle.command_host.specs.declared.files.PassFiles as files
use Rattle.command_host.specs.declared.host.Outside.{Outside}
use Rattle.command_host.specs.declared.journals.Journals as journals
use Rattle.command_host.specs.declared.network.PassNet as net
use Rattle.command_host.specs.Known.{Known}

-- Its type has what is known of each part, also of what files and sockets are otherwise, which isn't
-- wanted here.
abbrev pub known : {H S D F J N C I R L : Type 0} {s : Ghosts S}
    {d : databases.Ghosts D (Held S) C}
    {f : files.Ghosts F I R} {b : read.Ghosts I} {b-1 : write.Ghosts I} {b-2 : seek.Ghosts I}
    {r : read.Ghosts R} {j : journals.Ghosts J L} {l : disk.Ghosts L} {n : net.Ghosts N}
    {t-1 : read.Ghosts TcpStream} {t-2 : write.Ghosts TcpStream} {t-3 : raw.Ghosts TcpStream}
    {t-4 : raw.Ghosts TcpListener} {c : clock.Ghosts N}
    → Outside H S D F J N C I R L s d f b b-1 b-2 r j l n t-1 t-2 t-3 t-4 c → Known S D I L N
known {C = C} {s = s} {d = d} {f = f} {b = b} {j = j} {l = l} {n = n} {c = c} host = record {
  store = s;
  Closed = C;
  databases = d;
  opens = f.opens host.files.now;
  gives = f.gives;
  bytes_of = b.remaining;
  log = l;
  creates = j.creates host.journals.now;
  finds = j.opens host.journals.now;
  removes = j.removes host.journals.now;
  shows = c.shows;
  binds = n.binds;
  tells = n.tells;
  places = f.places host.files.now;
  stamps = f.stamps host.files.now;
  compares = j.compares host.journals.now;
}
