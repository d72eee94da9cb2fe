use Rattle.std.proofs.Common.{◌≡◌, ◌∙◌, ℕ, inl, inr, refl, sym, arith}
use Rattle.example_tests.specs.EdgeExamples.{loopback}
use Rattle.example_tests.proofs.examples.networks.examples_of_ports_that_are_not_bound.Goals as goal

pub returns-clause-bound_by_none : goal.returns-clause-bound_by_none
returns-clause-bound_by_none c = λ e. inl (refl, inl (loopback 8000, refl, refl, (e, tt)))

pub returns-clause-not_told : goal.returns-clause-not_told
returns-clause-not_told c = λ e listener. inl (refl, inr (listener, (e, refl)))

pub returns-clause-memory : goal.returns-clause-memory
returns-clause-memory c = inr refl

pub returns-clause-bound : goal.returns-clause-bound
returns-clause-bound c = λ unbound. elim unbound [
  | inl none ↦ elim none.1 [
    | inl refused ↦ refused.3.1
    | inr untold ↦ untold.1.1
  ]
  | inr memory ↦ cc
]

pub returns-clause-other_port : goal.returns-clause-other_port
returns-clause-other_port c = λ unbound. elim unbound [
  | inl none ↦ elim none.1 [
    | inl refused ↦ let k : ◌≡◌ {A = ℕ} 8000 80 = sym refused.2 ∙ refused.3.1 in omega (arith, k)
    | inr untold ↦ untold.1.1
  ]
  | inr memory ↦ cc
]

pub returns-clause-other_address : goal.returns-clause-other_address
returns-clause-other_address c = λ unbound. elim unbound [
  | inl none ↦ elim none.1 [
    | inl refused ↦ refused.3.1 refused.1
    | inr untold ↦ untold.1.1
  ]
  | inr memory ↦ cc
]

pub returns-clause-other_fault : goal.returns-clause-other_fault
returns-clause-other_fault c = λ unbound. elim unbound [
  | inl none ↦ let k = none.0 in cc
  | inr memory ↦ cc
]
