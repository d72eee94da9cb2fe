use Rattle.std.proofs.Common.{◌∙◌, [], ◌∷◌}
use Rattle.sealed_log.proofs.LogFacts.{both_are}
use Rattle.sealed_log.proofs.log.SealedLog.put_both.Goals as goal

pub put_lines-requires-clause-lines : goal.put_lines-requires-clause-lines
put_lines-requires-clause-lines g c =
    let first = c.args.first.now in
    let body = c.args.body.now in (
      first ∷ [],
      body,
      both_are c.args.self.now.seal first c.seal-between.result body c.deref.result.now c.seal-last.result c.requires.first c.requires.body c.seal-between.ensures c.seal-last.ensures
          (c.deref.ensures.value ∙ c.in_ok-text.ensures),
    )
