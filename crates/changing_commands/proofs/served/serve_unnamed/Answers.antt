use Rattle.std.proofs.Common.{rules, ◌≡◌, None, Ok, Err, inl, inr, refl}
use Rattle.command_host.proofs.OpenedFacts.{opened_office}
use Rattle.command_host.specs.Outside.{known}
use Rattle.review_office.specs.Meant.{meaning_over}
use Rattle.changing_commands.proofs.OpeningFacts.{served_from}
use Rattle.changing_commands.proofs.served.serve_unnamed.Goals as goal

pub returns-in_err-conn-clause-served : goal.returns-in_err-conn-clause-served
returns-in_err-conn-clause-served g c =
    let told : c.from_residual.result ≡ Err c.in_err-conn.field-0.0 = search rules in
    rw told (inl (inl c.in_err-conn.ensures.fault, ((refl, refl, refl), refl)))

pub returns-in_err-office-clause-served : goal.returns-in_err-office-clause-served
returns-in_err-office-clause-served g c =
    let told : c.from_residual-in_err-office.result ≡ Err c.in_err-office.field-0.0 = search rules in
    let there = inr (c.in_ok-conn.conn, c.in_ok-conn.ensures.opened.0, c.in_err-office.ensures.fault) in
    rw told (inl (inr (c.in_ok-conn.ensures.opened.1, there), ((refl, refl, refl), refl)))

pub returns-clause-served : goal.returns-clause-served
returns-clause-served g c =
    let k = known c.args.host.now in
    let here = c.serve_office.new in
    let Came = g.S.Serves.comes c.args.server.now here.server c.args.input.now here.input c.args.output.now here.output c.args.errors.now here.errors _ (meaning_over k.store) in
    let opened = k.databases.opened c.args.path.now in
    inr (
      c.in_ok-conn.ensures.opened.1,
      served_from k.databases (Came (Ok (tt {0}))) (λ why. Came (Err why)) None k.store opened c.in_ok-office.office
          (opened_office k.store opened c.in_ok-conn.conn c.in_ok-office.office c.in_ok-conn.ensures.opened.0 c.in_ok-office.ensures.over) c.serve_office.result c.serve_office.ensures.served,
    )
