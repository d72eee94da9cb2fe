use Rattle.example_tests.proofs.Unwritten.{stays_at_the_writer, stays_for_memory}
use Rattle.example_tests.proofs.examples.histories.examples_of_histories_cut_short.Goals as goal

pub returns-clause-at_the_writer : goal.returns-clause-at_the_writer
returns-clause-at_the_writer g c = λ conn left clean is. stays_at_the_writer g.S.Store conn left clean is

pub returns-clause-for_memory : goal.returns-clause-for_memory
returns-clause-for_memory g c = λ conn left clean is. stays_for_memory g.S.Store conn left clean is
