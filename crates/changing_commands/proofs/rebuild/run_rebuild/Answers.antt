use Rattle.std.proofs.Common.{rules, ◌≡◌, Err, inl, refl}
use Rattle.changing_commands.proofs.rebuild.run_rebuild.Goals as goal

pub returns-in_err-built-clause-failed : goal.returns-in_err-built-clause-failed
returns-in_err-built-clause-failed g c =
    let told : c.from_residual.result ≡ Err c.in_err-built.field-0.0 = search rules in
    rw told (inl (c.in_err-built.ensures.failed, refl))
