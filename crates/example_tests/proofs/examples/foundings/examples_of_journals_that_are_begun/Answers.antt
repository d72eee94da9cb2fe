use Rattle.std.proofs.Common.{arith}
use Rattle.example_tests.proofs.Begun.{is_begun, never_by_other, never_less_met, never_more, never_shut_at_once, never_unclean}
use Rattle.example_tests.proofs.examples.foundings.examples_of_journals_that_are_begun.Goals as goal

pub returns-clause-begun : goal.returns-clause-begun
returns-clause-begun g c = λ made log. is_begun g.D.Disk made log

pub returns-clause-not_made : goal.returns-clause-not_made
returns-clause-not_made g c = λ log e is. let k = is.created in cc

pub returns-clause-other_founding : goal.returns-clause-other_founding
returns-clause-other_founding g c = λ made log. never_by_other g.D.Disk made log

pub returns-clause-more : goal.returns-clause-more
returns-clause-more g c = λ made log. never_more g.D.Disk made log

pub returns-clause-unformed : goal.returns-clause-unformed
returns-clause-unformed g c = λ made log is. let k = is.forms.3 in omega (arith, k)

pub returns-clause-shut : goal.returns-clause-shut
returns-clause-shut g c = λ made log. never_shut_at_once g.D.Disk made log

pub returns-clause-unclean : goal.returns-clause-unclean
returns-clause-unclean g c = λ made log. never_unclean g.D.Disk made log

pub returns-clause-forgotten : goal.returns-clause-forgotten
returns-clause-forgotten g c = λ made log. never_less_met g.D.Disk made log
