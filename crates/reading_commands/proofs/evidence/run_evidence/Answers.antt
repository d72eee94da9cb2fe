use Rattle.std.proofs.Common.{rules, ◌≡◌, Err, inl, refl}
use Rattle.reading_commands.proofs.evidence.run_evidence.Goals as goal

pub returns-in_err-text-clause-failed : goal.returns-in_err-text-clause-failed
returns-in_err-text-clause-failed g c =
    let told : c.from_residual.result ≡ Err c.in_err-text.field-0.0 = search rules in
    rw told (inl (c.in_err-text.ensures.none, refl))
