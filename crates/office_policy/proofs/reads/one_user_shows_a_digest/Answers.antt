use Rattle.office_policy.proofs.LookUps.{shower_is}
use Rattle.office_policy.proofs.reads.one_user_shows_a_digest.Goals as goal

pub returns : goal.returns
returns c = shower_is
