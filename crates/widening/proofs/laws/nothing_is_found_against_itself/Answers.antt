use Rattle.widening.proofs.Itself.{nothing_found}
use Rattle.widening.proofs.laws.nothing_is_found_against_itself.Goals as goal

pub returns : goal.returns
returns c = nothing_found
