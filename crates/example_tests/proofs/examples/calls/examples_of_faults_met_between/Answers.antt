use Rattle.std.proofs.Common.{inl, inr, refl}
use Rattle.sealed_log.specs.declared.fault.LogFault.TheVariants.{Disk}
use Rattle.example_tests.proofs.Calls.{failed, failed_for_room, none_failed, none_refused}
use Rattle.example_tests.proofs.examples.calls.examples_of_faults_met_between.Goals as goal

pub returns-clause-memory : goal.returns-clause-memory
returns-clause-memory g c = λ old new. inl refl

pub returns-clause-disk : goal.returns-clause-disk
returns-clause-disk g c = λ old new was is. inr (failed g.D.Disk old new was is)

pub returns-clause-room : goal.returns-clause-room
returns-clause-room g c = λ old new was is. inr (failed_for_room g.D.Disk old new was is)

pub returns-clause-none_failed : goal.returns-clause-none_failed
returns-clause-none_failed g c = λ disk has met. elim met [
  | inl memory ↦ cc
  | inr of ↦ none_failed g.D.Disk disk disk 2 Disk has has of
]

pub returns-clause-none_refused : goal.returns-clause-none_refused
returns-clause-none_refused g c = λ old new was is met. elim met [
  | inl memory ↦ cc
  | inr of ↦ none_refused g.D.Disk old new was is of
]
