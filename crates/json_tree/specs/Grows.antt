-- A text that grows among bytes: it ends at a place, and the bytes behind that don't count.
use Rattle.std.specs.Prelude.{◌≡◌, ℕ, ◌≤◌, List, ◌++◌, length, take}

-- behind the text that ended at a place stand the bytes xs, up to another place
pub record Grows (old : List ℕ) (at : ℕ) (xs new : List ℕ) (end : ℕ) : Type 0 where
  pub text : take end new ≡ take at old ++ xs
  pub within : end ≤ length new
