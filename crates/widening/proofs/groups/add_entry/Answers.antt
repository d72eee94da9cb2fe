use Rattle.widening.proofs.GroupFacts.{name_added}
use Rattle.widening.proofs.groups.add_entry.Goals as goal

pub loop-name-preserved : goal.loop-name-preserved
loop-name-preserved c =
    name_added c.args.names.now c.args.groups.now c.loop-name.groups c.add_under.new.groups
    c.names-name-items.result.now c.loop-name.name-index c.name-item.result c.as_str.result.now c.args.place
    c.loop-name-test.true c.name-item.is c.as_str.ensures.text c.loop-name.invariant c.in_ok-guess.ensures
