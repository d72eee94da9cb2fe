use Rattle.std.proofs.Common.{◌≡◌, ◌∙◌, ◌<◌, ◌≤◌, ℕ, sym, subst, arith}
use Rattle.review_policy.specs.declared.denial.Need.{Need}
use Rattle.review_policy.specs.declared.denial.Need.TheVariants.{One, TwoWithSecurity}
use Rattle.review_policy.specs.Rules.{approvals_of}
use Rattle.office_policy.specs.Examples.{one_submitted, web}
use Rattle.office_policy.specs.LawExamples.{one_approves_text, text_approved}
use Rattle.office_policy.specs.Need.{need_at}
use Rattle.example_tests.proofs.examples.duties.examples_of_enough_approvals.Goals as goal

-- two are enough for any need, and none for none
two_enough : (need : Need) → approvals_of need ≤ 2
two_enough One = omega arith
two_enough TwoWithSecurity = omega arith

none_enough : (need : Need) → approvals_of need ≤ 0 → ⊥
none_enough One below = absurd (omega (arith, below))
none_enough TwoWithSecurity below = absurd (omega (arith, below))

two_of_one : 2 ≤ 1 → ⊥
two_of_one below = absurd (omega (arith, below))

none_above : 0 < 0 → ⊥
none_above below = absurd (omega (arith, below))

pub returns-clause-two : goal.returns-clause-two
returns-clause-two c = record { count = two_enough (need_at text_approved web 1); secured = λ two. omega arith }

pub returns-clause-one : goal.returns-clause-one
returns-clause-one c = λ one. record {
  count = subst (λ (need : Need). approvals_of need ≤ 1) (sym one) (omega arith);
  secured = λ two. omega arith;
}

pub returns-clause-none : goal.returns-clause-none
returns-clause-none c = λ are. none_enough (need_at one_submitted web 1) are.count

pub returns-clause-too_few : goal.returns-clause-too_few
returns-clause-too_few c = λ two are. two_of_one (subst (λ (need : Need). approvals_of need ≤ 1) two are.count)

pub returns-clause-none_secure : goal.returns-clause-none_secure
returns-clause-none_secure c = λ two are. none_above (are.secured two)
