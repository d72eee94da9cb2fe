use Rattle.office_policy.proofs.Submissions.{last_found, last_number}
use Rattle.office_policy.proofs.reads.the_last_revision_is_the_last_submission.Goals as goal

pub returns-clause-revision : goal.returns-clause-revision
returns-clause-revision c = last_found

pub returns-clause-number : goal.returns-clause-number
returns-clause-number c = last_number
