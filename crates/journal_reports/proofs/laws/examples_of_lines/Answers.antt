use Rattle.journal_reports.proofs.LineExamples.{founding_is, nothing_listed_is, enrolment_is, approval_is, rejection_is, issue_is, withdrawal_is, adoption_is, hold_is, release_is}
use Rattle.journal_reports.proofs.laws.examples_of_lines.Goals as goal

pub returns-clause-founding : goal.returns-clause-founding
returns-clause-founding c = founding_is

pub returns-clause-nothing_listed : goal.returns-clause-nothing_listed
returns-clause-nothing_listed c = nothing_listed_is

pub returns-clause-enrolment : goal.returns-clause-enrolment
returns-clause-enrolment c = enrolment_is

pub returns-clause-approval : goal.returns-clause-approval
returns-clause-approval c = approval_is

pub returns-clause-rejection : goal.returns-clause-rejection
returns-clause-rejection c = rejection_is

pub returns-clause-issue : goal.returns-clause-issue
returns-clause-issue c = issue_is

pub returns-clause-withdrawal : goal.returns-clause-withdrawal
returns-clause-withdrawal c = withdrawal_is

pub returns-clause-adoption : goal.returns-clause-adoption
returns-clause-adoption c = adoption_is

pub returns-clause-hold : goal.returns-clause-hold
returns-clause-hold c = hold_is

pub returns-clause-release : goal.returns-clause-release
returns-clause-release c = release_is
