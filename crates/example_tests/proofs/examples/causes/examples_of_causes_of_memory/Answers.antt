use Rattle.std.proofs.Common.{inl, inr, refl}
use Rattle.office_words.specs.declared.fault.Fault.TheVariants.{NoMemory, Full}
use Rattle.office_policy.specs.Verdict.{verdict}
use Rattle.example_tests.specs.Examples.{counting, grown, maybe_grown}
use Rattle.example_tests.proofs.Causes.{memory_there, not_in_doubt, not_written, other_history, refuses_one, refuses_other}
use Rattle.example_tests.proofs.examples.causes.examples_of_causes_of_memory.Goals as goal
use Rattle.no_memory.specs.Witness.{witness}

pub returns-clause-unwritten : goal.returns-clause-unwritten
returns-clause-unwritten c = λ h r. inl (refl, λ left may. inl may)

pub returns-clause-refused : goal.returns-clause-refused
returns-clause-refused c = λ h r reply e is. inr (refuses_one (NoMemory witness) (counting 3) h (verdict h r) reply e is)

pub returns-clause-written : goal.returns-clause-written
returns-clause-written c = λ h r. memory_there (grown 3) h r not_written

pub returns-clause-in_doubt : goal.returns-clause-in_doubt
returns-clause-in_doubt c = λ h r. memory_there (maybe_grown 3) h r not_in_doubt

pub returns-clause-refused_for_room : goal.returns-clause-refused_for_room
returns-clause-refused_for_room c = λ h r lacks. elim lacks [
  | inl none ↦ other_history none.0
  | inr refuses ↦ refuses_other Full (NoMemory witness) (λ same. cc) (counting 3) h (verdict h r) refuses
]

pub returns-clause-lacks : goal.returns-clause-lacks
returns-clause-lacks c = λ h r. inl (refl, λ left may. inl may)

pub returns-clause-has : goal.returns-clause-has
returns-clause-has c = λ h r. memory_there (grown 3) h r not_written
