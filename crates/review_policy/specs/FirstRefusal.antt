-- What it means that the first rule that refuses is named.
use Rattle.std.specs.Prelude.{◌≡◌, ℕ, ◌+◌, List, ◌∷◌, ◌++◌, Bool, true, false, length, Result, Ok}
use Rattle.std.specs.Prelude.{Err, ⊤}
use Rattle.std.specs.List.{list_any}
use Rattle.review_policy.specs.declared.denial.Denial.{Denial}
use Rattle.review_policy.specs.declared.denial.Rule.{Rule}

-- whether one of the rules refuses
abbrev pub any_refuses : List (Rule × Bool) → Bool
any_refuses rules = list_any (λ r. r.1) rules

-- the rule refuses, no rule before it does, and its number is its place where that of the first
-- rule is `first`
pub record IsFirstRefusal (first : ℕ) (rules : List (Rule × Bool)) (denial : Denial) : Type 0 where
  pub before : List (Rule × Bool)
  pub after : List (Rule × Bool)
  pub whole : rules ≡ before ++ ((denial.rule, true) ∷ after)
  pub passed : any_refuses before ≡ false
  pub place : denial.number ≡ length before + first

-- no rule refuses, or the first that does is named
abbrev pub IsDecision : ℕ → List (Rule × Bool) → Result ⊤ Denial → Type 0
IsDecision first rules (Ok done) = any_refuses rules ≡ false
IsDecision first rules (Err denial) = IsFirstRefusal first rules denial
