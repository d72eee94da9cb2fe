use Rattle.std.proofs.Common.{◌≡◌, true, false, arith}
use Rattle.example_tests.proofs.Built.{built_founding, built_torn, built_unread, never_kept, never_left_out, never_told, never_torn}
use Rattle.example_tests.proofs.examples.buildings.examples_of_offices_built_to_a_line.Goals as goal

pub returns-clause-founding : goal.returns-clause-founding
returns-clause-founding c = built_founding

pub returns-clause-torn : goal.returns-clause-torn
returns-clause-torn c = built_torn

pub returns-clause-unread : goal.returns-clause-unread
returns-clause-unread c = built_unread

pub returns-clause-shut : goal.returns-clause-shut
returns-clause-shut c = λ bytes line fault is. let k : false ≡ true = (is.stands tt).is_open in cc

pub returns-clause-no_line : goal.returns-clause-no_line
returns-clause-no_line c = λ bytes x fault is. let counted = is.counted in omega (arith, counted)

pub returns-clause-not_told : goal.returns-clause-not_told
returns-clause-not_told c = never_told

pub returns-clause-whole : goal.returns-clause-whole
returns-clause-whole c = never_torn

pub returns-clause-left_out : goal.returns-clause-left_out
returns-clause-left_out c = never_left_out

pub returns-clause-may_be_struck_out : goal.returns-clause-may_be_struck_out
returns-clause-may_be_struck_out c = never_kept
