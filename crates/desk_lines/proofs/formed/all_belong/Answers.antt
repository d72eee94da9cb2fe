use Rattle.std.proofs.Common.{◌∙◌, sym}
use Rattle.desk_lines.proofs.FormFacts.{another_part, part_belongs}
use Rattle.desk_lines.proofs.formed.all_belong.Goals as goal

pub returns-then-not-may_stand : goal.returns-then-not-may_stand
returns-then-not-may_stand c =
    sym (c.loop-name.invariant ∙ another_part c.args.parts.now c.args.members.now c.loop-name.name-index _ c.loop-name-test.true (sym c.may_stand.ensures ∙ c.if-not-may_stand.true))

pub loop-name-preserved : goal.loop-name-preserved
loop-name-preserved c =
    c.loop-name.invariant ∙ part_belongs c.args.parts.now c.args.members.now c.loop-name.name-index _ c.loop-name-test.true (sym c.may_stand.ensures ∙ c.if-not-may_stand.false)
