use Rattle.widening.proofs.RankFacts.{named_more}
use Rattle.widening.proofs.calls.ranks_of.Goals as goal

pub loop-entry-preserved : goal.loop-entry-preserved
loop-entry-preserved c =
    named_more _ _ c.args.name.now c.args.filter.now.default c.entries-entry-items.result.now c.loop-entry.entry-index c.entry-item.result
    c.loop-entry-test.true c.entry-item.is c.with_named-ranks.ensures c.loop-entry.invariant
