use Rattle.widening.proofs.GroupFacts.{entry_added}
use Rattle.widening.proofs.groups.add_entries.Goals as goal

pub loop-place-preserved : goal.loop-place-preserved
loop-place-preserved c =
    entry_added c.args.names.now c.loop-place.groups c.add_entry.new.groups c.args.entries.now c.loop-place.place c.index-entries-place.result
    c.loop-place-test.true c.index-entries-place.is c.loop-place.invariant c.in_ok-guess.ensures
