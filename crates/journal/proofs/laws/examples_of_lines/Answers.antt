use Rattle.journal.proofs.LineExamples.{founding_is, enrolment_is, submission_is, vote_is, issue_is, withdrawal_is, adoption_is, hold_is, release_is, strike_is, done_is}
use Rattle.journal.proofs.laws.examples_of_lines.Goals as goal

pub returns-clause-founding : goal.returns-clause-founding
returns-clause-founding c = founding_is

pub returns-clause-enrolment : goal.returns-clause-enrolment
returns-clause-enrolment c = enrolment_is

pub returns-clause-submission : goal.returns-clause-submission
returns-clause-submission c = submission_is

pub returns-clause-vote : goal.returns-clause-vote
returns-clause-vote c = vote_is

pub returns-clause-issue : goal.returns-clause-issue
returns-clause-issue c = issue_is

pub returns-clause-withdrawal : goal.returns-clause-withdrawal
returns-clause-withdrawal c = withdrawal_is

pub returns-clause-adoption : goal.returns-clause-adoption
returns-clause-adoption c = adoption_is

pub returns-clause-hold : goal.returns-clause-hold
returns-clause-hold c = hold_is

pub returns-clause-release : goal.returns-clause-release
returns-clause-release c = release_is

pub returns-clause-strike : goal.returns-clause-strike
returns-clause-strike c = strike_is

pub returns-clause-done : goal.returns-clause-done
returns-clause-done c = done_is
