use Rattle.std.proofs.Common.{◌≡◌, ◌∙◌, true, false, sym}
use Rattle.example_tests.proofs.Verified.{is_ahead, never_ahead, never_other_ahead}
use Rattle.example_tests.proofs.examples.verifications.examples_of_marks_ahead.Goals as goal

pub returns-clause-above : goal.returns-clause-above
returns-clause-above g c = λ office shows. is_ahead g.S.Store office shows

pub returns-clause-not_above : goal.returns-clause-not_above
returns-clause-not_above g c = λ office is. never_ahead g.S.Store office is

pub returns-clause-other_office : goal.returns-clause-other_office
returns-clause-other_office g c = λ office row is. never_other_ahead g.S.Store office row is

pub returns-clause-shut : goal.returns-clause-shut
returns-clause-shut g c = λ office shut is. let k : true ≡ false = sym is.shows.is_open ∙ shut in cc
