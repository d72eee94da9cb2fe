use Rattle.std.proofs.Common.{refl}
use Rattle.sealed_log.specs.Sealed.{no_seal}
use Rattle.sealed_log.proofs.seals.no_seal.Goals as goal

pub returns : goal.returns
unfolding no_seal
returns c = refl
