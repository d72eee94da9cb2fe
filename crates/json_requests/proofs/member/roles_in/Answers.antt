use Rattle.std.proofs.Common.{◌∙◌, sym}
use Rattle.json_requests.proofs.RequestFacts.{roles_more, roles_end}
use Rattle.json_requests.proofs.member.roles_in.Goals as goal

pub loop-value-preserved : goal.loop-value-preserved
loop-value-preserved c =
    rw c.with-roles.ensures (c.loop-value.invariant ∙ roles_more c.args.values.now c.loop-value.value-index c.loop-value.roles c.value-item.result c.in-Some.role c.loop-value-test.true c.value-item.is (sym c.role_of.ensures ∙ c.in-Some.is))

pub returns : goal.returns
returns c = sym (c.loop-value.invariant ∙ roles_end c.args.values.now c.loop-value.value-index c.loop-value.roles c.loop-value-test.false)
