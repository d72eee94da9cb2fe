-- Faults one after another.
use Rattle.std.proofs.Common.{◌≡◌, inl, inr, List, [], ◌∷◌, ◌++◌, Ok, Err, refl, ap}
use Rattle.profile_text.specs.declared.fault.DocFault.{DocFault}
use Rattle.profile_text.specs.Reading.{Gives, unless_faulty}

-- the fault of the first part is the fault of the whole
pub gives_first : {X Y : Type 0} (fault : DocFault) (a b : List DocFault) (x : X) (y : Y) → Gives {X = X} (Err fault) (unless_faulty a x) → Gives {X = Y} (Err fault) (unless_faulty (a ++ b) y)
gives_first fault [] b x y (inl memory) = inl memory
gives_first fault [] b x y (inr told) = absurd (cc)
gives_first fault (f ∷ a) b x y (inl memory) = inl memory
gives_first {X} {Y} fault (f ∷ a) b x y (inr told) = let same : f ≡ fault = cc in inr (ap (λ g. Err g) same)

-- the fault of a value is the same whatever stands beside it
pub gives_alone : {X Y : Type 0} (fault : DocFault) (a : List DocFault) (x : X) (y : Y) → Gives {X = X} (Err fault) (unless_faulty a x) → Gives {X = Y} (Err fault) (unless_faulty a y)
gives_alone fault [] x y (inl memory) = inl memory
gives_alone fault [] x y (inr told) = absurd (cc)
gives_alone fault (f ∷ a) x y (inl memory) = inl memory
gives_alone {X} {Y} fault (f ∷ a) x y (inr told) = let same : f ≡ fault = cc in inr (ap (λ g. Err g) same)

-- where a value is given there is no fault, and it is the value
pub ok_parts : {X : Type 0} (a : List DocFault) (x y : X) → unless_faulty a x ≡ Ok y → (a ≡ []) × (x ≡ y)
ok_parts [] x y e = let same : x ≡ y = cc in (refl, same)
ok_parts (f ∷ a) x y e = absurd (cc)
