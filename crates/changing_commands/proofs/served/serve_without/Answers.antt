use Rattle.std.proofs.Common.{rules, ◌≡◌, None, Ok, Err, inl, inr, refl}
use Rattle.command_host.specs.Outside.{known}
use Rattle.review_office.specs.Meant.{meaning_over}
use Rattle.changing_commands.proofs.OpeningFacts.{served_from}
use Rattle.changing_commands.proofs.served.serve_without.Goals as goal

pub returns-in_err-part-clause-served : goal.returns-in_err-part-clause-served
returns-in_err-part-clause-served g c =
    let told : c.from_residual.result ≡ Err c.in_err-part.field-0.0 = search rules in
    rw told (inl (inl (rw c.in_err-part.was at c.part.ensures), ((refl, refl, refl), refl)))

pub returns-in_err-office-clause-served : goal.returns-in_err-office-clause-served
returns-in_err-office-clause-served g c =
    let told : c.from_residual-in_err-office.result ≡ Err c.in_err-office.field-0.0 = search rules in
    rw told (inl (inr (rw c.in_ok-part.was at c.part.ensures, c.in_err-office.ensures.fault), ((refl, refl, refl), refl)))

pub returns-clause-served : goal.returns-clause-served
returns-clause-served g c =
    let k = known c.args.host.now in
    let here = c.serve_office.new in
    let Came = g.S.Serves.comes c.args.server.now here.server c.args.input.now here.input c.args.output.now here.output c.args.errors.now here.errors _ (meaning_over k.store) in
    inr (
      rw c.in_ok-part.was at c.part.ensures,
      served_from k.databases (Came (Ok (tt {0}))) (λ why. Came (Err why)) None k.store (k.databases.opened c.args.path.now) c.in_ok-office.office c.in_ok-office.ensures.opened
          c.serve_office.result c.serve_office.ensures.served,
    )
