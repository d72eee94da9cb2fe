use Rattle.std.proofs.Common.{◌≡◌, length}
use Rattle.streams.proofs.WholeFacts.{Written}
use Rattle.streams.proofs.whole.write_whole.Given as goal

abbrev pub invariant-loop-rest : goal.invariant-loop-rest
invariant-loop-rest g l =
    record {
      written : Written (g.W.Write.contents l.fn.writer.inner) (g.W.Write.contents l.writer.inner) l.fn.bytes l.rest;
      faults : l.writer.faults ≡ l.fn.writer.faults;
    }

abbrev pub decreases-loop-rest : goal.decreases-loop-rest
decreases-loop-rest g l = length l.rest
