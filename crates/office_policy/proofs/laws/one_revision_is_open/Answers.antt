use Rattle.office_policy.proofs.Histories.{open_last}
use Rattle.office_policy.proofs.laws.one_revision_is_open.Goals as goal

pub returns : goal.returns
returns c = open_last
