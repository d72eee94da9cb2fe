use Rattle.widening.proofs.Closed.{closed_no_wider}
use Rattle.widening.proofs.laws.the_closed_profile_permits_no_more_than_any.Goals as goal

pub returns : goal.returns
returns c = closed_no_wider
