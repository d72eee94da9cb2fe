use Rattle.office_policy.proofs.StandingFacts.{standing_is}
use Rattle.office_policy.proofs.standing.the_tables_have_the_standing_votes.Goals as goal

pub returns : goal.returns
returns c = standing_is
