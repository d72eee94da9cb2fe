-- An office that is a history, of which an event may happen again.
use Rattle.std.proofs.Common.{◌≡◌, ◌∙◌, inl, inr, ℕ, ◌∷◌, refl, sym, subst}
use Rattle.office_policy.specs.Handled.{Stands}
use Rattle.office_policy.specs.History.{History}
use Rattle.office_policy.specs.Lawful.{IsAllowed}
use Rattle.example_tests.specs.Examples.{counting, enrols, founding, founds, grown, quiet}
use Rattle.example_tests.proofs.Founded.{enrolment_lawful, enrols_allowed, founded_once, is_lawful}

-- the office is of its own history
pub founded_of : (n : ℕ) → quiet.is_of founding (counting n)
founded_of n = (is_lawful, refl)

pub stands_founded : (n : ℕ) (h : History) → quiet.is_of h (counting n) → Stands quiet h (counting n)
stands_founded n h of = record {
  is_of = of;
  is_open = refl;
  leaves = λ left may. elim may [ inl is ↦ is ∙ sym of.1 | inr is ↦ is ∙ sym of.1 ];
}

pub stands_grown : (h : History) → h ≡ founding → Stands quiet (enrols ∷ h) (grown 3)
stands_grown h is = subst (λ h. Stands quiet (enrols ∷ h) (grown 3)) (sym is) (record {
  is_of = (enrolment_lawful, refl);
  is_open = refl;
  leaves = λ left may. elim may [ inl is ↦ is | inr is ↦ is ];
})

pub allowed_of : (h : History) → h ≡ founding → IsAllowed h enrols
allowed_of h is = subst (λ h. IsAllowed h enrols) (sym is) enrols_allowed

pub once_of : (h : History) → h ≡ founding → IsAllowed h (founds 5) → ⊥
once_of h is allowed = founded_once (subst (λ h. IsAllowed h (founds 5)) is allowed)
