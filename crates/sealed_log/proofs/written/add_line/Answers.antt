use Rattle.std.proofs.Common.{arith}
use Rattle.sealed_log.proofs.FaultFacts.{later_by_read, named_later}
use Rattle.sealed_log.proofs.written.add_line.Goals as goal

pub returns-then-is_as_long-clause-word : goal.returns-then-is_as_long-clause-word
returns-then-is_as_long-clause-word g c = λ clean end.
    named_later g.D.Disk c.args.disk.now c.len.new.self c.write_line.new.disk c.write_line.result (later_by_read g.D.Disk c.args.disk.now c.len.new.self (omega (arith, c.in-Ok.ensures.faults)) c.len.ensures.tally) c.write_line.ensures.word
