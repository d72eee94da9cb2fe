-- What follows where no rule refuses.
use Rattle.std.proofs.Common.{◌≡◌, ℕ, suc, List, [], ◌∷◌, Bool, true, false, Ok, refl}
use Rattle.review_policy.specs.declared.denial.Rule.{Rule}
use Rattle.review_policy.specs.Rules.{first_from}

-- no rule of the list refuses
abbrev pub NoneRefuses : List (Rule × Bool) → Type 0
NoneRefuses [] = Unit {0}
NoneRefuses (r ∷ rules) = (r.1 ≡ false) × NoneRefuses rules

pub none_refuses : (n : ℕ) (rules : List (Rule × Bool)) → first_from n rules ≡ Ok tt → NoneRefuses rules
none_refuses n [] e = tt
none_refuses n ((rule, false) ∷ rules) e = (refl, none_refuses (suc n) rules e)
none_refuses n ((rule, true) ∷ rules) e = absurd (cc)
