use Rattle.std.proofs.Common.{rules, ◌≡◌, Err, inl}
use Rattle.changing_commands.proofs.OpeningFacts.{founded_closed, founded_open}
use Rattle.changing_commands.proofs.init.found_and_close.Goals as goal

pub returns-in_err-office-clause-failed : goal.returns-in_err-office-clause-failed
returns-in_err-office-clause-failed g c =
    let told : c.from_residual.result ≡ Err c.in_err-office.field-0.0 = search rules in
    rw told (inl c.in_err-office.ensures.refused)

pub returns-clause-founded : goal.returns-clause-founded
returns-clause-founded g c = founded_closed g.S.Store g.D.Databases _ _ c.in_ok-office.office c.close.result c.in_ok-office.ensures.founded c.close.ensures.closed

pub returns-clause-failed : goal.returns-clause-failed
returns-clause-failed g c = founded_open g.S.Store g.D.Databases _ _ _ c.close.result c.in_ok-office.ensures.founded c.close.ensures.ended c.close.ensures.fault
