-- What is refused while the later rules are taken to pass is refused whatever they say.
use Rattle.std.proofs.Common.{◌≡◌, ◌∙◌, ℕ, suc, List, [], ◌∷◌, Bool, true, false, Ok, Err, refl, sym}
use Rattle.std.specs.Prelude.{◌++◌}
use Rattle.review_policy.specs.declared.denial.Denial.{Denial}
use Rattle.review_policy.specs.declared.denial.Rule.{Rule}
use Rattle.review_policy.specs.FirstRefusal.{any_refuses}
use Rattle.review_policy.specs.Rules.{first_from, first_denial}

-- no rule is named where none refuses
none_named : (n : ℕ) (rules : List (Rule × Bool)) → any_refuses rules ≡ false → first_from n rules ≡ Ok tt
none_named n [] none = refl
none_named n ((rule, true) ∷ rules) none = absurd cc
none_named n ((rule, false) ∷ rules) none = none_named (suc n) rules none

named_before : (n : ℕ) (before passing later : List (Rule × Bool)) (d : Denial) → any_refuses passing ≡ false → first_from n (before ++ passing) ≡ Err d
    → first_from n (before ++ later) ≡ Err d
named_before n [] passing later d none e = let never : Ok tt ≡ Err d = sym (none_named n passing none) ∙ e in absurd cc
named_before n ((rule, true) ∷ before) passing later d none e = e
named_before n ((rule, false) ∷ before) passing later d none e = named_before (suc n) before passing later d none e

-- lists that begin alike are decided alike where what follows is
pub alike_behind : (n : ℕ) (before later other : List (Rule × Bool)) → ((m : ℕ) → first_from m later ≡ first_from m other)
    → first_from n (before ++ later) ≡ first_from n (before ++ other)
alike_behind n [] later other same = same n
alike_behind n ((rule, true) ∷ before) later other same = refl
alike_behind n ((rule, false) ∷ before) later other same = alike_behind (suc n) before later other same

-- a rule that is named before others that pass is named before any others
pub refused_early : (before passing later : List (Rule × Bool)) (d : Denial) → any_refuses passing ≡ false → first_denial (before ++ passing) ≡ Err d
    → first_denial (before ++ later) ≡ Err d
refused_early before passing later d none e = named_before 1 before passing later d none e
