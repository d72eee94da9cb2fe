use Rattle.office_policy.proofs.Histories.{teams_kept}
use Rattle.office_policy.proofs.laws.teams_are_kept.Goals as goal

pub returns : goal.returns
returns c = teams_kept
