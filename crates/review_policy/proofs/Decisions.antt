-- The first rule that refuses is the one that is named.
use Rattle.std.proofs.Common.{ℕ, suc, List, [], ◌∷◌, Bool, true, false, Result, Ok, Err, refl, ap, arith}
use Rattle.std.specs.Prelude.{⊤}
use Rattle.review_policy.specs.declared.denial.Denial.{Denial}
use Rattle.review_policy.specs.declared.denial.Rule.{Rule}
use Rattle.review_policy.specs.FirstRefusal.{IsDecision}
use Rattle.review_policy.specs.Rules.{first_from, first_denial}

-- a rule that doesn't refuse may stand before the others
after_passed : (first : ℕ) (rule : Rule) (rules : List (Rule × Bool)) (decision : Result ⊤ Denial)
    → IsDecision (suc first) rules decision → IsDecision first ((rule, false) ∷ rules) decision
after_passed first rule rules (Ok done) none = none
after_passed first rule rules (Err denial) named = record {
  before = (rule, false) ∷ named.before;
  after = named.after;
  whole = ap (λ others. (rule, false) ∷ others) named.whole;
  passed = named.passed;
  place = omega (arith, named.place);
}

-- at any number of the first rule
first_from_is_decision : (first : ℕ) (rules : List (Rule × Bool)) → IsDecision first rules (first_from first rules)
first_from_is_decision first [] = refl
first_from_is_decision first ((rule, true) ∷ rules) = record {
  before = [];
  after = rules;
  whole = refl;
  passed = refl;
  place = omega arith;
}
first_from_is_decision first ((rule, false) ∷ rules) =
    after_passed first rule rules (first_from (suc first) rules) (first_from_is_decision (suc first) rules)

-- at number 1
pub first_denial_is_decision : (rules : List (Rule × Bool)) → IsDecision 1 rules (first_denial rules)
first_denial_is_decision rules = first_from_is_decision 1 rules
