use Rattle.std.proofs.Common.{rules, ◌≡◌, Ok, Err, inl, inr, refl}
use Rattle.command_host.specs.Outside.{known}
use Rattle.changing_commands.specs.Journals.{journaled_over}
use Rattle.changing_commands.proofs.KeptFacts.{was_kept}
use Rattle.changing_commands.proofs.ServedFacts.{all_served, served_until}
use Rattle.changing_commands.proofs.served.serve_kept.Goals as goal

pub returns-in_err-kept-clause-served : goal.returns-in_err-kept-clause-served
returns-in_err-kept-clause-served g c =
    let told : c.from_residual.result ≡ Err c.in_err-kept.field-0.0 = search rules in
    rw told (inl (c.in_err-kept.ensures.fault, ((refl, refl, refl), refl)))

pub returns-clause-served : goal.returns-clause-served
returns-clause-served g c =
    let k = known c.args.host.now in
    let here = c.serve-served.new in
    let Came = g.S.Serves.comes c.args.server.now here.self c.args.input.now here.input c.args.output.now here.output c.args.errors.now here.errors _ (journaled_over k.store k.log) in
    let it = c.in_ok-kept.ensures.opened in
    inr (
      it.0,
      it.1,
      it.2,
      was_kept k.store k.log (k.finds c.args.journal.now) k.databases c.args.path.now it.0 (Came (Ok (tt {0}))) (λ why. Came (Err why)) c.in_ok-kept.kept here.office it.3 c.serve-served.result c.close_kept-closed.result c.first_fault.result
          (all_served Came _ _ c.serve-served.result c.serve-served.ensures.served) (served_until Came _ _ c.serve-served.result c.serve-served.ensures.served)
          c.close_kept-closed.ensures.closed c.close_kept-closed.ensures.ended c.close_kept-closed.ensures.fault c.first_fault.ensures,
    )
