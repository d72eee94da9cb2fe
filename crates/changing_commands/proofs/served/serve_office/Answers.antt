use Rattle.std.proofs.Common.{None, Ok, Err}
use Rattle.command_host.specs.Outside.{known}
use Rattle.review_office.specs.Meant.{meaning_over}
use Rattle.changing_commands.proofs.OpeningFacts.{was_served}
use Rattle.changing_commands.proofs.ServedFacts.{all_served, served_until}
use Rattle.changing_commands.proofs.served.serve_office.Goals as goal

pub returns-clause-served : goal.returns-clause-served
returns-clause-served g c =
    let k = known c.args.host.now in
    let here = c.serve-served.new in
    let Came = g.S.Serves.comes c.args.server.now here.self c.args.input.now here.input c.args.output.now here.output c.args.errors.now here.errors _ (meaning_over k.store) in
    was_served k.databases (Came (Ok (tt {0}))) (λ why. Came (Err why)) None c.args.office here.office c.serve-served.result c.close-closed.result c.first_fault.result
    (all_served Came _ _ c.serve-served.result c.serve-served.ensures.served) (served_until Came _ _ c.serve-served.result c.serve-served.ensures.served)
    c.close-closed.ensures.closed c.close-closed.ensures.ended c.close-closed.ensures.fault c.first_fault.ensures
