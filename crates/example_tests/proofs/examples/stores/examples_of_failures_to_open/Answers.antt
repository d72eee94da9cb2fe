use Rattle.std.proofs.Common.{◌≡◌, ◌∙◌, inl, inr, true, false, sym, arith}
use Rattle.example_tests.proofs.examples.stores.examples_of_failures_to_open.Goals as goal

pub returns-clause-room : goal.returns-clause-room
returns-clause-room g c = λ old new was is. omega (arith, was.count, is.count)

pub returns-clause-disk_shut : goal.returns-clause-disk_shut
returns-clause-disk_shut g c = λ old new was is. inr was.openness

pub returns-clause-no_room : goal.returns-clause-no_room
returns-clause-no_room g c = λ old new was is risen. omega (arith, was.count, is.count, risen)

pub returns-clause-no_disk : goal.returns-clause-no_disk
returns-clause-no_disk g c = λ old new was is failed. elim failed [
  | inl risen ↦ omega (arith, was.count, is.count, risen)
  | inr shut ↦ let k : true ≡ false = sym was.openness ∙ shut in cc
]

pub returns-clause-form : goal.returns-clause-form
returns-clause-form g c = λ old new none. none

pub returns-clause-old_schema : goal.returns-clause-old_schema
returns-clause-old_schema g c = λ old new none. none

pub returns-clause-no_index : goal.returns-clause-no_index
returns-clause-no_index g c = λ old new none. none
