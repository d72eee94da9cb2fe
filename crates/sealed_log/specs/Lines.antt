-- What is read of a line.
use Rattle.std.specs.Prelude.{◌≡◌, ◌<◌, ◌+◌, ℕ, List, ◌∷◌, ◌++◌, Bool, true, false, length, drop}
use Rattle.std.specs.Prelude.{Option, Some, None, Vec}
use Rattle.std.specs.declared.alloc.Global.{Global}
use Rattle.streams.specs.Lines.{NoFeed}
use Rattle.sealed_log.specs.Told.{IsUnended}

-- a part of a line, without a line feed, stands in the bytes at `at`
pub record IsPart (bytes : List ℕ) (at : ℕ) (line : List ℕ) : Type 0 where
  pub is : drop at bytes ≡ line ++ drop (at + length line) bytes
  pub one : NoFeed line

-- a whole line, and behind it a line feed, stands in the bytes at `at`
pub record IsLine (bytes : List ℕ) (at : ℕ) (line : List ℕ) : Type 0 where
  pub is : drop at bytes ≡ line ++ 10 ∷ drop (at + length line + 1) bytes
  pub one : NoFeed line

-- a part of a line became the whole, or a longer part
abbrev pub IsMore : List ℕ → ℕ → List ℕ → Bool → Type 0
IsMore bytes at line true = IsLine bytes at line
IsMore bytes at line false = IsPart bytes at line

-- a part grew by less than a piece where it became the whole, and else by a piece
abbrev pub IsLonger : ℕ → ℕ → ℕ → Bool → Type 0
IsLonger old piece new true = new < old + piece
IsLonger old piece new false = new ≡ old + piece

-- the line was found, or no line feed stands there soon enough
abbrev pub IsFound : List ℕ → ℕ → Option (Vec ℕ Global) → Type 0
IsFound bytes at None = IsUnended (drop at bytes)
IsFound bytes at (Some line) = IsLine bytes at line.items
