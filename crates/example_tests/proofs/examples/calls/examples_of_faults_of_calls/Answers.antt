use Rattle.example_tests.proofs.Calls.{each_refused, failed, failed_for_room, failed_often, none_failed, none_refused}
use Rattle.example_tests.proofs.examples.calls.examples_of_faults_of_calls.Goals as goal

pub returns-clause-disk : goal.returns-clause-disk
returns-clause-disk g c = λ old new. failed g.D.Disk old new

pub returns-clause-memory : goal.returns-clause-memory
returns-clause-memory g c = λ old new. failed g.D.Disk old new

pub returns-clause-room : goal.returns-clause-room
returns-clause-room g c = λ old new. failed_for_room g.D.Disk old new

pub returns-clause-greatest : goal.returns-clause-greatest
returns-clause-greatest g c = λ disk. failed_often g.D.Disk disk

pub returns-clause-none_failed : goal.returns-clause-none_failed
returns-clause-none_failed g c = λ old new fault. none_failed g.D.Disk old new 3 fault

pub returns-clause-none_refused : goal.returns-clause-none_refused
returns-clause-none_refused g c = λ old new. none_refused g.D.Disk old new

pub returns-clause-each_refused : goal.returns-clause-each_refused
returns-clause-each_refused g c = λ old new. each_refused g.D.Disk old new
