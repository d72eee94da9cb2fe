use Rattle.std.proofs.Common.{Some}
use Rattle.journal_office.specs.Steps.{CountsNext}
use Rattle.journal_office.proofs.visitor.next_or_end.Goals as goal

pub returns-in-Ok-Some-clause-taken : goal.returns-in-Ok-Some-clause-taken
returns-in-Ok-Some-clause-taken g c =
    let next = c.in-Ok-Some.ensures in
    let counted : CountsNext c.args.replay.now.count c.next.new.self.count (Some c.in-Ok-Some.placed) = rw c.in-Ok-Some.field-0-is at next.count in
    record {
      read = record { office = next.office; seen = λ bytes seen. next.seen bytes seen; line = next.line };
      told = rw c.in-Ok-Some.field-0-is at (next.next c.requires);
      fault = next.fault;
      counted = counted.0;
      few = counted.1;
    }

pub returns-in-Ok-None-clause-ends : goal.returns-in-Ok-None-clause-ends
returns-in-Ok-None-clause-ends g c = λ begun from at.
    let next = c.in-Ok-None.ensures in
    c.end.ensures begun from c.args.replay.now at (record {
      read = record { office = next.office; seen = λ bytes seen. next.seen bytes seen; line = next.line };
      ends = rw c.in-Ok-None.field-0-is at (next.next c.requires);
      counted = rw c.in-Ok-None.field-0-is at next.count;
    })

pub returns-in-Err-clause-ends : goal.returns-in-Err-clause-ends
returns-in-Err-clause-ends g c = λ begun from at.
    let next = c.in-Err.ensures in
    c.stop.ensures begun from c.args.replay.now at (record { office = next.office; line = next.line; left = next.next c.requires })
