-- The first fault of checks one after another.
use Rattle.std.proofs.Common.{◌≡◌, ◌∙◌, refl, List, [], ◌∷◌, ◌++◌, true, false, Some, None, map}
use Rattle.std.proofs.lemmas.List.{map-append}
use Rattle.seccomp_doc.specs.declared.fault.FilterFault.{FilterFault}
use Rattle.seccomp_doc.specs.Checks.{Check, first_fault}

-- where the first ones find none, the others decide
pub first_fault-after : (before after : List Check) → first_fault before ≡ None → first_fault (before ++ after) ≡ first_fault after
first_fault-after [] after e = refl
first_fault-after ((fault, true) ∷ before) after e = cc
first_fault-after ((fault, false) ∷ before) after e = first_fault-after before after e

-- a fault of the first ones is the fault of all
pub first_fault-before : (before after : List Check) (fault : FilterFault) → first_fault before ≡ Some fault → first_fault (before ++ after) ≡ Some fault
first_fault-before [] after fault e = cc
first_fault-before ((other, true) ∷ before) after fault e = e
first_fault-before ((other, false) ∷ before) after fault e = first_fault-before before after fault e

-- one check more, which doesn't fail
pub first_fault-push : {X : Type 0} (check : X → Check) (xs : List X) (x : X) → first_fault (map check xs) ≡ None → (check x).1 ≡ false → first_fault (map check (xs ++ x ∷ [])) ≡ None
first_fault-push check xs x none holds = rw map-append (first_fault-after (map check xs) (check x ∷ []) none ∙ rw holds refl)

-- the first check that fails
pub first_fault-here : {X : Type 0} (check : X → Check) (xs : List X) (x : X) (rest : List X) → first_fault (map check xs) ≡ None → (check x).1 ≡ true → first_fault (map check (xs ++ x ∷ rest)) ≡ Some (check x).0
first_fault-here check xs x rest none fails = rw map-append (first_fault-after (map check xs) (check x ∷ map check rest) none ∙ rw fails refl)
