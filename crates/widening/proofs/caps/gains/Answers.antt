use Rattle.std.proofs.Common.{arith}
use Rattle.std.proofs.lemmas.Bool.{OnFalse_from}
use Rattle.widening.specs.Findings.{gains}
use Rattle.widening.proofs.CapFacts.{gains_from_bits, within_from_bits}
use Rattle.widening.proofs.caps.gains.Goals as goal

pub returns-clause-told : goal.returns-clause-told
unfolding gains
returns-clause-told c =
    gains_from_bits c.args.base c.args.new c.bits-2.result c.bits.result c.bits.ensures.value c.bits-2.ensures.value (omega arith) (omega arith)

pub returns-clause-no_more : goal.returns-clause-no_more
returns-clause-no_more c =
    OnFalse_from _ _
    (within_from_bits c.args.base c.args.new c.bits-2.result c.bits.result c.bits.ensures.value c.bits-2.ensures.value (omega arith) (omega arith))
