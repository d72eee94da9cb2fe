use Rattle.office_policy.proofs.Judged.{all_judged}
use Rattle.office_policy.proofs.laws.every_request_is_judged.Goals as goal

pub returns : goal.returns
returns c = all_judged
