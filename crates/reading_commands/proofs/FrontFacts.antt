-- The front of a file, read in two parts.
use Rattle.std.proofs.Common.{◌≡◌, ◌∙◌, ℕ, ◌<◌, ◌≤◌, ◌⊎◌, List, [], ◌++◌, length, take, Option, Some, None, IfSome, ap, sym, inl, inr, append-nil, append_assoc}
use Rattle.std.proofs.Math.Nat.{eq-or-lt_of_le}
use Rattle.std.proofs.lemmas.List.{take_all, take_at}
use Rattle.reading_commands.specs.Reading.{HasReadOn}

-- so many first bytes, or all that there are, are the front
front_of_part : (most : ℕ) (all front rest : List ℕ) → all ≡ front ++ rest → length front ≤ most → (length front < most → rest ≡ []) → take most all ≡ front
front_of_part most all front rest is within ended = by (eq-or-lt_of_le within) where
  by : (length front ≡ most) ⊎ (length front < most) → take most all ≡ front
  by (inl long) = ap (take most) is ∙ take_at front rest most long
  by (inr less) = ap (take most) (is ∙ ap (λ r. front ++ r) (ended less) ∙ append-nil front) ∙ take_all most front within

-- a first part, and then as much as that says
pub front_read : (most : ℕ) (extent : List ℕ → ℕ) (came mid left : Option (List ℕ)) (head bytes : List ℕ) → HasReadOn came mid [] head most → HasReadOn mid left head bytes (extent head)
    → IfSome came (λ all. bytes ≡ take (extent (take most all)) all)
front_read most extent None mid left head bytes first second = tt
front_read most extent (Some all) None left head bytes first second = absurd first.read
front_read most extent (Some all) (Some rest) None head bytes first second = absurd second.read
front_read most extent (Some all) (Some rest) (Some last) head bytes first second =
    let parts : all ≡ head ++ rest = first.read ∙ ap (λ h. h ++ rest) (sym first.parts) in
    let head_is : take most all ≡ head = front_of_part most all head rest parts first.within first.ended in
    let whole : all ≡ bytes ++ last = parts ∙ ap (λ r. head ++ r) second.read ∙ sym (append_assoc head second.more last) ∙ ap (λ b. b ++ last) (sym second.parts) in
    let bytes_is : take (extent head) all ≡ bytes = front_of_part (extent head) all bytes last whole second.within second.ended in
    sym bytes_is ∙ ap (λ h. take (extent h) all) (sym head_is)
