use Rattle.office_policy.proofs.Histories.{one_issued}
use Rattle.office_policy.proofs.laws.one_revision_is_issued.Goals as goal

pub returns : goal.returns
returns c = one_issued
