use Rattle.std.proofs.Common.{rules, ◌≡◌, Err, inl, inr, refl, subst, sym}
use Rattle.command_host.specs.declared.fault.CommandFault.{CommandFault}
use Rattle.reading_commands.specs.Verifications.{IsUnsaid}
use Rattle.reading_commands.proofs.verify.run_verify.Goals as goal

pub returns-in_err-verified-clause-failed : goal.returns-in_err-verified-clause-failed
returns-in_err-verified-clause-failed g c =
    let told : c.from_residual.result ≡ Err c.in_err-verified.field-0.0 = search rules in
    rw told (inl (c.in_err-verified.ensures.failed, refl))

pub returns-clause-done : goal.returns-clause-done
returns-clause-done g c = (
  record {
    verified = c.in_ok-verified.verified;
    office = c.in_ok-verified.ensures.verified;
    printed = rw c.in-Ok.ensures at (rw c.deref.ensures.value at c.in_ok-print_bytes.ensures.whole);
  },
  refl,
)

pub returns-in_err-print_bytes-clause-failed : goal.returns-in_err-print_bytes-clause-failed
returns-in_err-print_bytes-clause-failed g c =
    let told : c.from_residual-in_err-print_bytes.result ≡ Err c.in_err-print_bytes.field-0.0 = search rules in
    rw told (let failed = c.in_err-print_bytes.ensures.fault in
    inr (
      c.in_ok-verified.verified,
      c.in_ok-verified.ensures.verified,
      subst (λ (why : CommandFault). IsUnsaid (g.F.PassFiles.opens c.args.files.now) (g.F.PassFiles.places c.args.files.now) g.O.Write.contents c.args.output.now c.print_bytes.new.output c.in_ok-verified.verified why) (sym failed.0) (rw c.in-Ok.ensures at (rw c.deref.ensures.value at failed.1)),
    ))
