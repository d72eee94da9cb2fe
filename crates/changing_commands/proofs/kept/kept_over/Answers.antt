use Rattle.std.proofs.Common.{rules, ◌≡◌, Err, inl, inr}
use Rattle.changing_commands.proofs.kept.kept_over.Goals as goal

pub returns-in_err-office-clause-fault : goal.returns-in_err-office-clause-fault
returns-in_err-office-clause-fault g c =
    let told : c.from_residual.result ≡ Err c.in_err-office.field-0.0 = search rules in
    rw told (inl c.in_err-office.ensures.fault)

pub returns-in-Ok-clause-opened : goal.returns-in-Ok-clause-opened
returns-in-Ok-clause-opened g c = record { office = c.in_ok-office.office; over = c.in_ok-office.ensures.over; journal = c.in-Ok.ensures.opened }

pub returns-in-Err-clause-fault : goal.returns-in-Err-clause-fault
returns-in-Err-clause-fault g c = inr (c.in_ok-office.office, c.in-Err.office, c.in_ok-office.ensures.over, c.in-Err.ensures.none, c.close.ensures.ended)
