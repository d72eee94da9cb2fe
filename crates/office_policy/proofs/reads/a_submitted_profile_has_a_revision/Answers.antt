use Rattle.office_policy.proofs.LookUps.{found_is}
use Rattle.office_policy.proofs.reads.a_submitted_profile_has_a_revision.Goals as goal

pub returns : goal.returns
returns c = found_is
