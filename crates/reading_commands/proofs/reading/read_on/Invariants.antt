use Rattle.std.proofs.Common.{◌-◌, ◌≤◌, length}
use Rattle.reading_commands.specs.Reading.{AreCalls}
use Rattle.reading_commands.specs.declared.reading.TheConstants.{MOST_READS}
use Rattle.reading_commands.proofs.ReadingFacts.{IsReadSoFar}
use Rattle.reading_commands.proofs.reading.read_on.Given as goal

abbrev pub invariant-reads : goal.invariant-reads
invariant-reads g l =
    record {
      read : IsReadSoFar (g.F.File.Read.remaining l.fn.file) (g.F.File.Read.remaining l.file) l.fn.bytes.items l.bytes.items;
      most : length l.bytes.items ≤ l.most;
      calls : AreCalls g.F.PassFiles.gives l.calls l.fn.file l.file;
      few : l.calls ≤ MOST_READS;
    }

abbrev pub decreases-reads : goal.decreases-reads
decreases-reads g l = MOST_READS - l.calls
