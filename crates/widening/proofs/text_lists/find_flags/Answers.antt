use Rattle.std.proofs.Common.{ap, take, arith}
use Rattle.widening.specs.declared.finding.Finding.TheVariants.{Flag}
use Rattle.widening.proofs.FoundFacts.{text_more}
use Rattle.widening.proofs.text_lists.find_flags.Goals as goal

pub loop-i-preserved : goal.loop-i-preserved
loop-i-preserved c =
    text_more Flag c.args.found.now.items c.args.base.now c.args.new.now c.loop-i.i c.index-new-i.result c.loop-i-test.true c.index-new-i.is
    c.loop-i.found.items c.find_flag.new.found.items _ c.loop-i.invariant c.in_ok-find_flag.ensures (ap (λ n. take n c.args.new.now) (omega arith))
