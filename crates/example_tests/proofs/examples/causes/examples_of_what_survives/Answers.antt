use Rattle.std.proofs.Common.{[], ◌≡◌, ◌≤◌, inl, inr, true, false, refl, arith}
use Rattle.office_policy.proofs.SurvivalFacts.{survives_none}
use Rattle.example_tests.specs.Examples.{counting, quiet}
use Rattle.example_tests.proofs.Causes.{not_risen}
use Rattle.example_tests.proofs.examples.causes.examples_of_what_survives.Goals as goal

false_is_true : false ≡ true → ⊥
false_is_true e = cc

pub returns-clause-same : goal.returns-clause-same
returns-clause-same c = survives_none quiet (counting 3)

pub returns-clause-shut_by_a_fault : goal.returns-clause-shut_by_a_fault
returns-clause-shut_by_a_fault c = record {
  clean = λ clean. clean;
  counts = omega arith;
  closes = λ clean is_open. inr (inl (omega arith));
  shut = λ clean is_open. refl;
  stays = λ e stray. stray;
  grows = λ clean. ([], refl);
}

pub returns-clause-forgotten : goal.returns-clause-forgotten
returns-clause-forgotten c = λ survives. let more : 3 ≤ 2 = survives.counts in omega (arith, more)

pub returns-clause-shut_by_none : goal.returns-clause-shut_by_none
returns-clause-shut_by_none c = λ survives. elim (survives.closes tt refl) [
  | inl is_open ↦ false_is_true is_open
  | inr (inl risen) ↦ not_risen risen
  | inr (inr stray) ↦ stray.1
]

pub returns-clause-opened : goal.returns-clause-opened
returns-clause-opened c = λ survives. false_is_true (survives.shut tt refl)
