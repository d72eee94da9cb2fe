use Rattle.std.proofs.Common.{ap}
use Rattle.command_host.specs.Outside.{known}
use Rattle.changing_commands.specs.Lines.{HasEnded}
use Rattle.changing_commands.proofs.ServedFacts.{unused_as}
use Rattle.changing_commands.proofs.stored.serve_stored.Goals as goal

pub returns-clause-served : goal.returns-clause-served
returns-clause-served g c =
    let ended = c.serve_named-ended in
    let here = ended.new in
    let remaining = g.R.Read.remaining in
    let came = remaining c.args.input.now.inner in
    let left = remaining here.input.inner in
    unused_as (known c.args.host.now)
    (λ X m. HasEnded g.W.Write.contents g.E.Write.contents m came left c.args.output.now here.output c.args.errors.now here.errors here.server.witness)
    c.args.path.now _ _ (λ it. ((ap (λ i. remaining i.inner) it.0.0, it.0.1, it.0.2), ap (λ d. d.witness) it.1))
    c.args.journal ended.result ended.ensures.served
