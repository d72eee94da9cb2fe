-- Lists, and what an iterator has given.
use Rattle.std.proofs.Common.{◌≡◌, ◌∙◌, ap, refl, List, [], ◌∷◌, ◌++◌, Bool, true, false, ◌||◌}
use Rattle.std.specs.Iterator.{Yields}
use Rattle.std.specs.List.{list_any}
use Rattle.std.specs.Vec.Iter.{into_iter_items, into_iter_steps}
use Rattle.std.specs.declared.vec.IntoIter.{IntoIter}

-- what the iterator of a vector has given is a front of its items
pub taken_front : {X A : Type 0} (s : IntoIter X A) (xs : List X) (t : IntoIter X A) → Yields into_iter_steps s xs t → into_iter_items s ≡ xs ++ into_iter_items t
taken_front s [] t y = ap into_iter_items y
taken_front s (x ∷ xs) t y = y.1.0 ∙ ap (λ ys. x ∷ ys) (taken_front y.0 xs t y.2)

-- either of the two passes
pub or_right : (a b : Bool) → b ≡ true → (a || b) ≡ true
or_right true b h = refl
or_right false b h = h

-- an element in the middle passes
pub list_any_here : {X : Type 0} (p : X → Bool) (xs : List X) (y : X) (zs : List X) → p y ≡ true → list_any p (xs ++ y ∷ zs) ≡ true
list_any_here p [] y zs h = ap (λ b. b || list_any p zs) h
list_any_here p (x ∷ xs) y zs h = or_right (p x) _ (list_any_here p xs y zs h)

-- the same in a list that was mapped
pub list_any_among : {X : Type 0} (p : X → Bool) (xs : List X) (y : X) (zs : List X) → p y ≡ true → list_any p (xs ++ y ∷ zs) ≡ true
list_any_among p [] y zs h = ap (λ b. b || list_any p zs) h
list_any_among p (x ∷ xs) y zs h = or_right (p x) _ (list_any_among p xs y zs h)
