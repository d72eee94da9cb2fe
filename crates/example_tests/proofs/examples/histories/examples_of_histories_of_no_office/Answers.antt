use Rattle.std.proofs.Common.{inl, refl}
use Rattle.example_tests.proofs.Unwritten.{nothing_more, nothing_told, of_no_line}
use Rattle.example_tests.proofs.examples.histories.examples_of_histories_of_no_office.Goals as goal

pub returns-clause-nothing : goal.returns-clause-nothing
returns-clause-nothing g c = λ conn left. inl (inl (nothing_told, refl), refl)

pub returns-clause-of_a_line : goal.returns-clause-of_a_line
returns-clause-of_a_line g c = λ conn left is. of_no_line g.S.Store conn left is

pub returns-clause-something : goal.returns-clause-something
returns-clause-something g c = λ conn left is. nothing_more g.S.Store conn left is
