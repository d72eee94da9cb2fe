use Rattle.std.proofs.Common.{◌≡◌, ℕ, inl, inr, refl, arith}
use Rattle.example_tests.proofs.examples.reads.examples_of_files_that_are_let_go.Goals as goal

pub returns-clause-removed : goal.returns-clause-removed
returns-clause-removed c = inr (refl, refl, inl (refl, refl))

pub returns-clause-locked : goal.returns-clause-locked
returns-clause-locked c = inl (inl refl, refl)

pub returns-clause-elsewhere : goal.returns-clause-elsewhere
returns-clause-elsewhere c = inl (inr refl, refl)

pub returns-clause-unlocked : goal.returns-clause-unlocked
returns-clause-unlocked c = λ e it. elim it [
  | inl left ↦ let k = left.1 in cc
  | inr cleared ↦ let k = cleared.0 in cc
]

pub returns-clause-of_another : goal.returns-clause-of_another
returns-clause-of_another c = λ e it. elim it [
  | inl left ↦ let k = left.1 in cc
  | inr cleared ↦ let k = cleared.1 in cc
]

pub returns-clause-stays : goal.returns-clause-stays
returns-clause-stays c = λ it. elim it [
  | inl (inl locked, is) ↦ cc
  | inl (inr led, is) ↦ cc
  | inr (locked, led, inl removed) ↦ removed.1
  | inr (locked, led, inr (inl left)) ↦ let k : left.0 ≡ 0 = cc in absurd (omega (arith, k, left.2))
  | inr (locked, led, inr (inr unmeasured)) ↦ let k = unmeasured.1 in cc
]
