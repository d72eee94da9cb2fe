use Rattle.std.proofs.Common.{◌∙◌, sym}
use Rattle.json_requests.proofs.ObjectFacts.{another_here, belongs_here}
use Rattle.json_requests.proofs.object.all_belong.Goals as goal

pub returns-then-not-is_among : goal.returns-then-not-is_among
returns-then-not-is_among c =
    sym (c.loop-name.invariant ∙ another_here c.args.names.now c.args.members.now c.loop-name.name-index _ c.loop-name-test.true (sym c.is_among.ensures ∙ c.if-not-is_among.true))

pub loop-name-preserved : goal.loop-name-preserved
loop-name-preserved c =
    c.loop-name.invariant ∙ belongs_here c.args.names.now c.args.members.now c.loop-name.name-index _ c.loop-name-test.true (sym c.is_among.ensures ∙ c.if-not-is_among.false)
