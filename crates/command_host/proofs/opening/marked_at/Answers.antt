use Rattle.std.proofs.Common.{rules, ◌≡◌, Err, inl, inr, refl}
use Rattle.command_host.proofs.opening.marked_at.Goals as goal

pub returns-in_err-conn-clause-fault : goal.returns-in_err-conn-clause-fault
returns-in_err-conn-clause-fault g c =
    let told : c.from_residual.result ≡ Err c.in_err-conn.field-0.0 = search rules in
    rw told (inl c.in_err-conn.ensures.fault)

pub returns-in-Err-clause-fault : goal.returns-in-Err-clause-fault
returns-in-Err-clause-fault g c =
    inr (refl, (c.in-Err.field-0, c.in-Err.ensures), (c.in_ok-conn.conn, c.in_ok-conn.ensures.opened, (c.close.result, c.close.ensures.ended)))
