use Rattle.widening.proofs.Permitted.{no_wider, no_wider_by_test}
use Rattle.widening.proofs.laws.no_finding_permits_no_more.Goals as goal

pub returns-clause-list : goal.returns-clause-list
returns-clause-list c = no_wider

pub returns-clause-test : goal.returns-clause-test
returns-clause-test c = no_wider_by_test
