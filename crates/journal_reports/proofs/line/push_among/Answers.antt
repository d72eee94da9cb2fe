use Rattle.std.specs.Prelude.{string_bytes}
use Rattle.journal_reports.proofs.Adding.{role_more, roles_end}
use Rattle.journal_reports.proofs.line.push_among.Goals as goal

pub loop-role-preserved : goal.loop-role-preserved
loop-role-preserved c =
    role_more c.args.roles c.args.among.now c.loop-role.role-index _ _ _ _ c.loop-role-test.true c.loop-role.invariant c.in_ok-push_role.ensures

pub returns : goal.returns
returns c =
    roles_end c.args.roles c.args.among.now c.loop-role.role-index (string_bytes c.loop-role.text) _ c.loop-role-test.false c.loop-role.invariant
