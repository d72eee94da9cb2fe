use Rattle.office_policy.proofs.StandingFacts.{by_voter}
use Rattle.office_policy.proofs.standing.standing_votes_are_by_voter.Goals as goal

pub returns : goal.returns
returns c = by_voter
