use Rattle.std.proofs.Common.{◌≤◌, ◌-◌, length, IsTrue}
use Rattle.sealed_log.specs.Disks.{IsRead}
use Rattle.sealed_log.specs.Lines.{IsPart}
use Rattle.sealed_log.proofs.lines.read_line.Given as goal

abbrev pub invariant-pieces : goal.invariant-pieces
invariant-pieces g l = record {
  read : IsRead g.D.Disk l.fn.disk l.disk;
  within : length l.line.items ≤ l.most;
  part : IsTrue (g.D.Disk.is_clean l.disk) → IsPart (g.D.Disk.seen l.fn.disk) l.at l.line.items;
}

abbrev pub decreases-pieces : goal.decreases-pieces
decreases-pieces g l = l.most - length l.line.items
