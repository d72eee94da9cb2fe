-- The last part of a text.
use Rattle.std.proofs.Common.{◌≡◌, ◌∙◌, List, [], ◌∷◌, map, Option, None, Some, ap, refl}
use Rattle.std.proofs.iter.Yields.{gives_Drains}
use Rattle.std.proofs.lemmas.Iterator.{YieldsList}
use Rattle.std.specs.Iterator.{Drains}
use Rattle.std.specs.List.{last_or}
use Rattle.std.specs.Prelude.{option_map, unwrap_or}

module _ {A B : Type 0} (v : A → B) where
  -- the view of the last is the last of the views
  last_viewed : (o : Option A) (xs : List A) → option_map v (last_or o xs) ≡ last_or (option_map v o) (map v xs)
  last_viewed o [] = refl
  last_viewed o (x ∷ xs) = last_viewed (Some x) xs

  -- so is that of what stands in place of none
  pub viewed_or : (o : Option A) (other : A) → v (unwrap_or o other) ≡ unwrap_or (option_map v o) (v other)
  viewed_or None other = refl
  viewed_or (Some x) other = refl

-- the last item of what yields a list
pub last_from_yields : {S A B : Type 0} {steps : S → Option A → S → Type 0} {v : A → B} {all : List B} (s : S) (last : Option A)
    → ((xs : List A) × Drains steps s xs × (last ≡ last_or None xs)) → YieldsList steps v s all → option_map v last ≡ last_or None all
last_from_yields {steps = steps} {v} {all} s last ran list =
    ap (option_map v) ran.2 ∙ last_viewed v None ran.0 ∙ ap (last_or None) (gives_Drains steps v ran.0 all s list.runs ran.1)
