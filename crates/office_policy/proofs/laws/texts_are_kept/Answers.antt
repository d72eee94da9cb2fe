use Rattle.office_policy.proofs.Histories.{submissions_kept}
use Rattle.office_policy.proofs.laws.texts_are_kept.Goals as goal

pub returns : goal.returns
returns c = submissions_kept
