use Rattle.std.proofs.Common.{◌≡◌, ℕ, inl, inr, refl, arith}
use Rattle.example_tests.proofs.examples.reads.examples_of_files_that_are_cleared.Goals as goal

pub returns-clause-removed : goal.returns-clause-removed
returns-clause-removed c = inl (refl, refl)

pub returns-clause-left : goal.returns-clause-left
returns-clause-left c = inr (inl (3, refl, omega arith, refl))

pub returns-clause-unmeasured : goal.returns-clause-unmeasured
returns-clause-unmeasured c = λ e. inr (inr (e, refl, refl))

pub returns-clause-there_still : goal.returns-clause-there_still
returns-clause-there_still c = λ e cleared. elim cleared [
  | inl removed ↦ let k = removed.1 in cc
  | inr (inl left) ↦ let k : left.0 ≡ 0 = cc in omega (arith, k, left.2)
  | inr (inr unmeasured) ↦ let k = unmeasured.2 in cc
]

pub returns-clause-not_empty : goal.returns-clause-not_empty
returns-clause-not_empty c = λ e cleared. elim cleared [
  | inl removed ↦ let k : ◌≡◌ {A = ℕ} 0 3 = cc in absurd (omega (arith, k))
  | inr (inl left) ↦ let k = left.3 in cc
  | inr (inr unmeasured) ↦ let k = unmeasured.1 in cc
]

pub returns-clause-unknown : goal.returns-clause-unknown
returns-clause-unknown c = λ e cleared. elim cleared [
  | inl removed ↦ let k = removed.0 in cc
  | inr (inl left) ↦ let k = left.1 in cc
  | inr (inr unmeasured) ↦ let k = unmeasured.2 in cc
]
