use Rattle.std.proofs.Common.{arith}
use Rattle.office_store.proofs.bind.of_user.Goals as goal

pub returns-clause-formed : goal.returns-clause-formed
returns-clause-formed c = record { name = c.as_str-name.ensures.formed; team = c.as_str-team.ensures.formed; roles = omega (arith, c.bits.ensures.small, c.bits.ensures.value); digest = c.bytes_of-digest.ensures.long }
