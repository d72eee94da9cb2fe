use Rattle.std.proofs.Common.{◌≡◌, ◌≤◌, ◌-◌, IsTrue, length}
use Rattle.sealed_log.specs.Disks.{IsRead}
use Rattle.sealed_log.specs.Reading.{IsSoFar}
use Rattle.sealed_log.proofs.ReaderFacts.{KeepsSoFar}
use Rattle.sealed_log.proofs.read.read_through.Given as goal

abbrev pub invariant-lines : goal.invariant-lines
invariant-lines g l = record {
  read : IsRead g.D.Disk l.fn.disk l.disk;
  len : IsTrue (g.D.Disk.is_clean l.disk) → l.reader.len ≡ length (g.D.Disk.seen l.fn.disk);
  counted : l.lines ≤ l.reader.at;
  so_far : IsTrue (g.D.Disk.is_clean l.disk) → IsSoFar (g.D.Disk.seen l.fn.disk) l.reader l.lines;
  keeps : IsTrue (g.D.Disk.is_clean l.disk) → KeepsSoFar g.K.Keeps.is_of (g.D.Disk.seen l.fn.disk) l.reader l.lines l.keeper;
}

abbrev pub decreases-lines : goal.decreases-lines
decreases-lines g l = l.reader.len - l.reader.at
