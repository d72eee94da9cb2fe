use Rattle.std.proofs.Common.{rules, ◌≡◌, Err, inr, refl}
use Rattle.desk_http.proofs.timed.TimedWrite.write.Goals as goal

pub returns-in_err-set_write_timeout-clause-timed : goal.returns-in_err-set_write_timeout-clause-timed
returns-in_err-set_write_timeout-clause-timed g c =
    let told : c.from_residual-in_err-set_write_timeout.result ≡ Err c.in_err-set_write_timeout.field-0.0 = search rules in
    rw told (inr (c.in_err-set_write_timeout.field-0.0, refl, refl, inr (c.in_ok-left.left, c.in_ok-left.ensures, c.in_err-set_write_timeout.ensures)))
