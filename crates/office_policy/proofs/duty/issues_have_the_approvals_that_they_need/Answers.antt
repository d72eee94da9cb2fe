use Rattle.office_policy.proofs.DutyFacts.{enough, plain}
use Rattle.office_policy.proofs.duty.issues_have_the_approvals_that_they_need.Goals as goal

pub returns-clause-enough : goal.returns-clause-enough
returns-clause-enough c = enough

pub returns-clause-plain : goal.returns-clause-plain
returns-clause-plain c = plain
