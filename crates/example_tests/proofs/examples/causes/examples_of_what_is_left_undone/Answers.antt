use Rattle.std.proofs.Common.{◌≡◌, ◌⊎◌, inl, inr, ℕ, ◌∷◌, refl, ap, arith}
use Rattle.office_policy.specs.History.{History, founded}
use Rattle.example_tests.specs.Examples.{enrolment, founding, founds}
use Rattle.example_tests.proofs.Causes.{none_begun, other_history}
use Rattle.example_tests.proofs.examples.causes.examples_of_what_is_left_undone.Goals as goal

pub returns-clause-same : goal.returns-clause-same
returns-clause-same c = λ h v. (refl, λ left may. inl may)

pub returns-clause-begun : goal.returns-clause-begun
returns-clause-begun c = λ reply. (refl, λ left may. elim may [ inl is ↦ inl (inl is) | inr is ↦ inr is ])

pub returns-clause-written : goal.returns-clause-written
returns-clause-written c = λ h v undone. other_history undone.0

pub returns-clause-in_doubt : goal.returns-clause-in_doubt
returns-clause-in_doubt c = λ h v undone. elim (undone.1 enrolment (inr refl)) [
  | inl (inl is) ↦ other_history is
  | inl (inr is) ↦ other_history is
  | inr begun ↦ none_begun h v enrolment begun
]

-- the enrolment isn't what may be left before
left_before : {Begun : Type 0} → (Begun → ⊥) → ((enrolment ≡ founding) ⊎ (enrolment ≡ founding)) ⊎ Begun → ⊥
left_before none (inl (inl is)) = other_history is
left_before none (inl (inr is)) = other_history is
left_before none (inr begun) = none begun

-- nor is it a founding
abbrev listed_first : History → ℕ
listed_first (founded name team digest listed ∷ before) = listed
listed_first h = 0

pub returns-clause-other_begun : goal.returns-clause-other_begun
returns-clause-other_begun c = λ reply undone. left_before
    (λ (is : enrolment ≡ founds 6 ∷ founding). let k : ◌≡◌ {A = ℕ} 0 6 = ap listed_first is in absurd (omega (arith, k)))
    (undone.1 enrolment (inr refl))

pub returns-clause-only_read : goal.returns-clause-only_read
returns-clause-only_read c = λ reply undone. left_before (λ none. none) (undone.1 enrolment (inr refl))

pub returns-clause-denied : goal.returns-clause-denied
returns-clause-denied c = λ d told undone. left_before (λ none. none) (undone.1 enrolment (inr refl))
