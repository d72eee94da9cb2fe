use Rattle.sealed_log.specs.Sealed.{before_body, before_seal, behind_seal}
use Rattle.sealed_log.proofs.SealFacts.{joined}
use Rattle.sealed_log.proofs.seals.wrapped.Goals as goal

pub returns : goal.returns
unfolding before_body before_seal behind_seal
returns c =
    joined c.new-line.result.items before_body c.args.body.now before_seal c.args.seal.now behind_seal _ _ _ _ _
    c.new-line.ensures.items
    c.in_ok-extend_from_slice.ensures.items
    c.in_ok-extend_from_slice-2.ensures.items
    c.in_ok-extend_from_slice-3.ensures.items
    c.in_ok-extend_from_slice-4.ensures.items
    c.in_ok-extend_from_slice-5.ensures.items
