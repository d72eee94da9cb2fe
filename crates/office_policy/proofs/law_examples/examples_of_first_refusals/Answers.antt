use Rattle.std.proofs.Common.{◌≡◌, ◌+◌, List, [], ◌∷◌, ◌++◌, Bool, true, false, length, refl, ap, arith}
use Rattle.review_policy.specs.declared.denial.Rule.{Rule}
use Rattle.review_policy.specs.declared.denial.Rule.TheVariants as rules
use Rattle.review_policy.specs.FirstRefusal.{any_refuses}
use Rattle.office_policy.proofs.law_examples.examples_of_first_refusals.Goals as goal

abbrev Rules : Type 0
Rules = List (Rule × Bool)

abbrev first_refuses : Rules → Bool
first_refuses [] = false
first_refuses (r ∷ more) = r.1

-- the second rule isn't the first that refuses where the first does
not_second : (before after : Rules) → ((rules.CallerUnknown, true) ∷ (rules.RoleMissing, true) ∷ []) ≡ before ++ ((rules.RoleMissing, true) ∷ after) → any_refuses before ≡ false → 2 ≡ length before + 1 → ⊥
not_second [] after whole passed place = absurd (omega (arith, place))
not_second ((rule, true) ∷ []) after whole passed place = absurd (let k : true ≡ false = passed in cc)
not_second ((rule, false) ∷ []) after whole passed place = absurd (let k : true ≡ false = ap first_refuses whole in cc)
not_second (r ∷ s ∷ more) after whole passed place = absurd (omega (arith, place))

pub returns-clause-second : goal.returns-clause-second
returns-clause-second c = record {
  before = (rules.CallerUnknown, false) ∷ [];
  after = (rules.OtherTeam, true) ∷ [];
  whole = refl;
  passed = refl;
  place = refl;
}

pub returns-clause-behind_it : goal.returns-clause-behind_it
returns-clause-behind_it c = λ is. not_second is.before is.after is.whole is.passed is.place

-- nothing stands before the one rule
alone : (before after : Rules) → ((rules.CallerUnknown, true) ∷ []) ≡ before ++ ((rules.CallerUnknown, true) ∷ after) → 2 ≡ length before + 1 → ⊥
alone [] after whole place = absurd (omega (arith, place))
alone (r ∷ []) after whole place = absurd (let k : 1 ≡ length (r ∷ (rules.CallerUnknown, true) ∷ after) = ap (λ (l : Rules). length l) whole in omega (arith, k))
alone (r ∷ s ∷ more) after whole place = absurd (omega (arith, place))

pub returns-clause-other_place : goal.returns-clause-other_place
returns-clause-other_place c = λ is. alone is.before is.after is.whole is.place
