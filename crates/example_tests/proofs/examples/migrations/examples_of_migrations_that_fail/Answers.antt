use Rattle.std.proofs.Common.{◌≡◌, inl, inr, true, false, refl}
use Rattle.example_tests.proofs.Duties.{false_is_true, true_is_false}
use Rattle.example_tests.proofs.examples.migrations.examples_of_migrations_that_fail.Goals as goal

pub returns-clause-not_there : goal.returns-clause-not_there
returns-clause-not_there g c = λ path why none. inl (refl, none)

pub returns-clause-with_journal : goal.returns-clause-with_journal
returns-clause-with_journal g c = λ path why with_. inr (inl (refl, with_))

pub returns-clause-not_migrated : goal.returns-clause-not_migrated
returns-clause-not_migrated g c = λ path why old opened un. inr (inr (λ is. absurd (true_is_false is), (old, opened, un)))

pub returns-clause-unmarked : goal.returns-clause-unmarked
returns-clause-unmarked g c = λ path why old marked opened un. inr (inr (λ is. marked, (old, opened, un)))

pub returns-clause-unopened : goal.returns-clause-unopened
returns-clause-unopened g c = λ path why there closed fails. elim fails [
  | inl none ↦ there none.1
  | inr (inl with_) ↦ true_is_false with_.0
  | inr (inr un) ↦ closed un.1.0 un.1.1
]

pub returns-clause-marked : goal.returns-clause-marked
returns-clause-marked g c = λ path why without marked fails. elim fails [
  | inl none ↦ false_is_true none.0
  | inr (inl with_) ↦ without with_.1
  | inr (inr un) ↦ marked (un.0 refl)
]

pub returns-clause-migrated : goal.returns-clause-migrated
returns-clause-migrated g c = λ path why there done fails. elim fails [
  | inl none ↦ there none.1
  | inr (inl with_) ↦ true_is_false with_.0
  | inr (inr un) ↦ done un.1.0 un.1.2
]
