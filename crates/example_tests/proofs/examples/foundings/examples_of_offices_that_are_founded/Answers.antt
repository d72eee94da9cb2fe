use Rattle.example_tests.proofs.Begun.{is_founded, never_clean_again, never_of_other, never_over}
use Rattle.example_tests.proofs.examples.foundings.examples_of_offices_that_are_founded.Goals as goal

pub returns-clause-founded : goal.returns-clause-founded
returns-clause-founded g c = λ was office. is_founded g.S.Store was office

pub returns-clause-undescribed : goal.returns-clause-undescribed
returns-clause-undescribed g c = λ office why is. is.founded

pub returns-clause-unopened : goal.returns-clause-unopened
returns-clause-unopened g c = λ office is. is.opened

pub returns-clause-something_there : goal.returns-clause-something_there
returns-clause-something_there g c = λ was office. never_over g.S.Store was office

pub returns-clause-unclean : goal.returns-clause-unclean
returns-clause-unclean g c = λ was office. never_clean_again g.S.Store was office

pub returns-clause-other_founding : goal.returns-clause-other_founding
returns-clause-other_founding g c = λ was office. never_of_other g.S.Store was office
