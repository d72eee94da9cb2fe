use Rattle.seccomp_doc.proofs.ArgFacts.{repeat_here, no_repeat_here}
use Rattle.seccomp_doc.proofs.entry.has_index_twice.Goals as goal

pub returns-then-has_index : goal.returns-then-has_index
returns-then-has_index c = repeat_here c.args.args.now c.loop-i.i _ c.loop-i-test.true c.loop-i.invariant c.if-has_index.ensures

pub loop-i-preserved : goal.loop-i-preserved
loop-i-preserved c = no_repeat_here c.args.args.now c.loop-i.i _ c.loop-i-test.true c.loop-i.invariant c.if-has_index.ensures
