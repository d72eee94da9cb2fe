use Rattle.std.proofs.Common.{rules, ◌≡◌, Err, inl, inr, refl, arith}
use Rattle.command_host.proofs.opening.unmarked_at.Goals as goal

pub returns-in_err-conn-clause-fault : goal.returns-in_err-conn-clause-fault
returns-in_err-conn-clause-fault g c =
    let told : c.from_residual.result ≡ Err c.in_err-conn.field-0.0 = search rules in
    rw told (inl c.in_err-conn.ensures.fault)

pub returns-clause-fault : goal.returns-clause-fault
returns-clause-fault g c =
    inr (
      refl,
      (c.in_ok-conn.mark, c.in_ok-conn.ensures.opened.1, omega (arith, c.if-mark-eq0.false)),
      (c.in_ok-conn.conn, c.in_ok-conn.ensures.opened.0, (c.close.result, c.close.ensures.ended)),
    )
