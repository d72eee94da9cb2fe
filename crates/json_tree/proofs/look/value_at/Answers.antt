use Rattle.std.proofs.Common.{◌∙◌, sym}
use Rattle.json_tree.proofs.Looking.{found_here, found_later, found_none}
use Rattle.json_tree.proofs.look.value_at.Goals as goal

pub loop-key-preserved : goal.loop-key-preserved
loop-key-preserved c =
    c.loop-key.invariant ∙ found_later c.args.name.now c.args.members.now c.loop-key.key-index _ c.loop-key-test.true (sym c.eq.ensures ∙ c.if-eq.false)

pub returns-then-eq : goal.returns-then-eq
returns-then-eq c =
    sym (c.loop-key.invariant ∙ found_here c.args.name.now c.args.members.now c.loop-key.key-index _ c.loop-key-test.true (sym c.eq.ensures ∙ c.if-eq.true))

pub returns : goal.returns
returns c = sym (c.loop-key.invariant ∙ found_none c.args.name.now c.args.members.now c.loop-key.key-index c.loop-key-test.false)
