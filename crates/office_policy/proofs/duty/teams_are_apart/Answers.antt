use Rattle.office_policy.proofs.TeamFacts.{teams_apart}
use Rattle.office_policy.proofs.duty.teams_are_apart.Goals as goal

pub returns : goal.returns
returns c = teams_apart
