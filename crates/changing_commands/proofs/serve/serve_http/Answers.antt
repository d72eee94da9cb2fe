use Rattle.command_host.specs.Outside.{known}
use Rattle.changing_commands.specs.Serving.{IsServing}
use Rattle.changing_commands.proofs.ServedFacts.{unused_as}
use Rattle.changing_commands.proofs.serve.serve_http.Goals as goal

pub returns : goal.returns
returns g c =
    let k = known c.args.host.now in
    unused_as k
    (λ X m ended old new. IsServing k.shows k.binds k.tells g.O.Write.contents m c.args.words.now old new c.args.output.now c.serve_named.new.output ended)
    c.args.words.now.database.now _ _ (λ it. it.0.1)
    c.args.words.now.journal c.serve_named.result c.serve_named.ensures.served
