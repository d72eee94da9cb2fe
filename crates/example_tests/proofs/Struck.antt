-- What can't stand behind the lines of a journal that is kept.
use Rattle.std.proofs.Common.{◌≡◌, ℕ, List, [], ◌∷◌, Option, Some, None, length, ap, arith}
use Rattle.office_policy.specs.History.{Event}
use Rattle.journal.specs.Journals.{struck_bodies}
use Rattle.journal.specs.Lines.{happened, strike, done, text_of}

-- events that are struck out have no line or two at least
pub never_one : (events : List (Option ℕ × Event)) (body : List ℕ) → body ∷ [] ≡ struck_bodies events → ⊥
never_one [] body is = let k : 1 ≡ 0 = ap (λ (l : List (List ℕ)). length l) is in absurd (omega (arith, k))
never_one ((None, e) ∷ more) body is =
    let k : 1 ≡ length (text_of (happened e) ∷ text_of strike ∷ struck_bodies more) = ap (λ (l : List (List ℕ)). length l) is in
    absurd (omega (arith, k))
never_one ((Some n, e) ∷ more) body is =
    let k : 1 ≡ length (text_of (done n) ∷ text_of (happened e) ∷ text_of strike ∷ struck_bodies more) = ap (λ (l : List (List ℕ)). length l) is in
    absurd (omega (arith, k))
