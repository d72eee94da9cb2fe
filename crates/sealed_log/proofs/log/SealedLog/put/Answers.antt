use Rattle.std.proofs.Common.{◌∙◌, []}
use Rattle.sealed_log.proofs.LogFacts.{one_is}
use Rattle.sealed_log.proofs.log.SealedLog.put.Goals as goal

pub put_lines-requires-clause-lines : goal.put_lines-requires-clause-lines
put_lines-requires-clause-lines g c =
    let body = c.args.body.now in
    ([], body, one_is c.args.self.now.seal body c.deref.result.now c.seal-seal.result c.requires c.seal-seal.ensures (c.deref.ensures.value ∙ c.in_ok-line.ensures))
