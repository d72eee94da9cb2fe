use Rattle.std.proofs.Common.{ℕ, List, subst}
use Rattle.command_host.specs.Said.{IsSaid}
use Rattle.command_host.proofs.SaidFacts.{said_so}
use Rattle.command_host.proofs.written.say.Goals as goal

pub returns : goal.returns
returns g c =
    let put = c.write_whole.ensures in
    subst (λ (text : List ℕ). IsSaid g.E.Write.contents c.args.errors.now c.write_whole.new.writer text)
    c.as_bytes.ensures.value
    (said_so g.E.Write.contents c.args.errors.now c.write_whole.new.writer c.as_bytes.result.now c.write_whole.result
    put.whole put.part put.no_fault put.fault)
