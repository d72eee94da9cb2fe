use Rattle.example_tests.proofs.Openings.{never_ahead, never_less, never_of_others, never_shut, never_stray, never_unsettled, reopened}
use Rattle.example_tests.proofs.examples.openings.examples_of_reopened_offices.Goals as goal

pub returns-clause-own : goal.returns-clause-own
returns-clause-own g c = λ old log. reopened g.S.Store g.D.Disk old log

pub returns-clause-mark_above : goal.returns-clause-mark_above
returns-clause-mark_above g c = λ old log x. never_ahead g.S.Store g.D.Disk old log x

pub returns-clause-other_office : goal.returns-clause-other_office
returns-clause-other_office g c = λ old log x. never_of_others g.S.Store g.D.Disk old log x

pub returns-clause-unsettled : goal.returns-clause-unsettled
returns-clause-unsettled g c = λ old log. never_unsettled g.S.Store g.D.Disk old log

pub returns-clause-missing : goal.returns-clause-missing
returns-clause-missing g c = λ old log x. never_less g.S.Store g.D.Disk old log x

pub returns-clause-shut : goal.returns-clause-shut
returns-clause-shut g c = λ old log x. never_shut g.S.Store g.D.Disk old log x

pub returns-clause-stray : goal.returns-clause-stray
returns-clause-stray g c = λ old log x. never_stray g.S.Store g.D.Disk old log x
