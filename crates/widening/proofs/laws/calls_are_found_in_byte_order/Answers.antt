use Rattle.widening.proofs.Ordered.{calls_in_order}
use Rattle.widening.proofs.laws.calls_are_found_in_byte_order.Goals as goal

pub returns : goal.returns
returns c = calls_in_order
