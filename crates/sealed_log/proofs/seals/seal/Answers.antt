use Rattle.std.proofs.Common.{ap, ◌∙◌, [], ◌++◌}
use Rattle.hex.specs.Hex.{encode_lower}
use Rattle.sealed_log.specs.Sealed.{seal_on}
use Rattle.sealed_log.proofs.seals.seal.Goals as goal

pub returns : goal.returns
unfolding seal_on
returns c =
    let prior = c.args.prior.now in
    let body = c.args.body.now in
    let digest = c.finalize-digest.ensures (prior ++ body) (c.update-2.ensures prior (c.update.ensures [] c.new-hasher.ensures)) in
    c.in-Ok.ensures.written ∙ ap encode_lower digest
