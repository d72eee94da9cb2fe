use Rattle.std.proofs.Common.{ap, take, arith}
use Rattle.widening.specs.declared.finding.Finding.TheVariants.{Arch}
use Rattle.widening.proofs.FoundFacts.{text_more}
use Rattle.widening.proofs.text_lists.find_added_architectures.Goals as goal

pub loop-i-preserved : goal.loop-i-preserved
loop-i-preserved c =
    text_more Arch c.args.found.now.items c.args.base.now c.args.new.now c.loop-i.i c.index-new-i.result c.loop-i-test.true c.index-new-i.is
    c.loop-i.found.items c.find_architecture.new.found.items _ c.loop-i.invariant c.in_ok-find_architecture.ensures (ap (λ n. take n c.args.new.now) (omega arith))
