use Rattle.office_policy.proofs.Submissions.{next_free}
use Rattle.office_policy.proofs.events.the_next_number_is_free.Goals as goal

pub returns : goal.returns
returns c = next_free
