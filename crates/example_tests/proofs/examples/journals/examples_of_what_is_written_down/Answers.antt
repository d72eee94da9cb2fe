use Rattle.std.proofs.Common.{◌≡◌, ℕ, List, true, false, Option, Some, None, length, refl, ap, arith}
use Rattle.example_tests.proofs.examples.journals.examples_of_what_is_written_down.Goals as goal

false_is_true : false ≡ true → ⊥
false_is_true e = cc

pub returns-clause-nothing : goal.returns-clause-nothing
returns-clause-nothing c = λ goes. (refl, refl, refl)

pub returns-clause-event : goal.returns-clause-event
returns-clause-event c = λ goes. (refl, refl)

pub returns-clause-settled : goal.returns-clause-settled
returns-clause-settled c = λ goes. (refl, refl)

pub returns-clause-struck : goal.returns-clause-struck
returns-clause-struck c = λ goes. (refl, refl)

pub returns-clause-ended : goal.returns-clause-ended
returns-clause-ended c = λ goes. absurd (false_is_true goes)

pub returns-clause-more_than_nothing : goal.returns-clause-more_than_nothing
returns-clause-more_than_nothing c = λ adds. let k : ◌≡◌ {A = ℕ} 3 1 = ap (λ (l : List (List ℕ)). length l) (adds refl).1 in absurd (omega (arith, k))

pub returns-clause-not_settled : goal.returns-clause-not_settled
returns-clause-not_settled c = λ adds. let k : ◌≡◌ {A = ℕ} 2 3 = ap (λ (l : List (List ℕ)). length l) (adds refl).1 in absurd (omega (arith, k))

pub returns-clause-struck_twice : goal.returns-clause-struck_twice
returns-clause-struck_twice c = λ adds. let k : ◌≡◌ {A = ℕ} 5 3 = ap (λ (l : List (List ℕ)). length l) (adds refl).1 in absurd (omega (arith, k))

pub returns-clause-missing : goal.returns-clause-missing
returns-clause-missing c = λ adds. let k : ◌≡◌ {A = ℕ} 1 2 = ap (λ (l : List (List ℕ)). length l) (adds refl).1 in absurd (omega (arith, k))

pub returns-clause-settled_at_once : goal.returns-clause-settled_at_once
returns-clause-settled_at_once c = λ adds. let same : ◌≡◌ {A = Option ℕ} None (Some 1) = (adds refl).2 in cc

pub returns-clause-ended_before : goal.returns-clause-ended_before
returns-clause-ended_before c = λ adds. false_is_true (adds refl).0
