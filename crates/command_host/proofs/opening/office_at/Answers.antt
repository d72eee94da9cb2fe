use Rattle.std.proofs.Common.{rules, ◌≡◌, Err, inl}
use Rattle.command_host.proofs.OpenedFacts.{fault_over, opened_over}
use Rattle.command_host.proofs.opening.office_at.Goals as goal

pub returns-in_err-conn-clause-fault : goal.returns-in_err-conn-clause-fault
returns-in_err-conn-clause-fault g c =
    let told : c.from_residual.result ≡ Err c.in_err-conn.field-0.0 = search rules in
    rw told (inl c.in_err-conn.ensures.fault)

pub returns-clause-opened : goal.returns-clause-opened
returns-clause-opened g c =
    opened_over g.S.Store (g.D.Databases.opened c.args.path.now) c.in_ok-conn.conn c.in_ok-conn.ensures.opened c.office_over.result c.office_over.ensures.over

pub returns-clause-fault : goal.returns-clause-fault
returns-clause-fault g c =
    fault_over g.S.Store g.D.Databases c.args.path.now c.in_ok-conn.conn c.in_ok-conn.ensures.opened c.office_over.result c.office_over.ensures.fault
