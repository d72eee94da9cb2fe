-- Tests that hold of every number below a literal.
use Rattle.std.proofs.Common.{◌≡◌, ℕ, zero, suc, ◌<◌, Bool, true, inl, inr, arith}
use Rattle.std.specs.Prelude.{◌&&◌}
use Rattle.std.proofs.lemmas.Bool.{and_parts, cases_eq}

abbrev pub holds_below : (ℕ → Bool) → ℕ → Bool
holds_below test zero = true
holds_below test (suc n) = test n && holds_below test n

pub each_below : (test : ℕ → Bool) (most n : ℕ) → holds_below test most ≡ true → n < most → test n ≡ true
each_below test zero n h lt = absurd (omega arith)
each_below test (suc m) n h lt =
    let parts = and_parts (test m) (holds_below test m) h in
    elim (cases_eq n m) as (λ _. test n ≡ true) [
      | inl same ↦ rw same parts.0
      | inr other ↦ each_below test m n parts.1 (omega arith)
    ]
