-- The seal of the first so many lines of a journal.
use Rattle.std.specs.Prelude.{◌≡◌, ◌≢◌, ◌<◌, ◌≤◌, ℕ, List, ◌++◌, All, length, take, Option, Some}
use Rattle.std.specs.Prelude.{None, IfSome}
use Rattle.sealed_log.specs.Sealed.{IsBody, sealed_text, seal_of}
use Rattle.journal.specs.declared.seal_at.SealAt.{SealAt}
use Rattle.journal.specs.Told.{Place}

-- the seal of the first so many of these lines; none where there are fewer
abbrev pub IsSealAt : ℕ → List (List ℕ) → Option (List ℕ) → Type 0
IsSealAt line bodies (Some seal) = (line ≤ length bodies) × (seal ≡ seal_of (take line bodies))
IsSealAt line bodies None = length bodies < line

-- the seal of so many of these lines, where it is asked for; none where it isn't
abbrev pub IsSealAsked : Option ℕ → List (List ℕ) → Option (List ℕ) → Type 0
IsSealAsked None bodies at = at ≡ None
IsSealAsked (Some line) bodies at = IsSealAt line bodies at

-- the seal of the lines that were taken is kept just where their number is the one that is asked
-- for
pub record Sees (old new : SealAt) (taken : ℕ) (seal : List ℕ) : Type 0 where
  pub line : new.line ≡ old.line
  pub there : taken ≡ old.line → new.seal ≡ seal
  pub elsewhere : taken ≢ old.line → new.seal ≡ old.seal

-- what is kept when so many lines were taken, or they are too few
abbrev pub Finds : SealAt → (taken : ℕ) → Option (List ℕ) → Type 0
Finds kept taken (Some seal) = (kept.line ≤ taken) × (seal ≡ kept.seal)
Finds kept taken None = taken < kept.line

-- what is kept when so many lines were taken, where it is asked for; none where it isn't
abbrev pub IsFound : Option ℕ → SealAt → (taken : ℕ) → Option (List ℕ) → Type 0
IsFound None kept taken at = at ≡ None
IsFound (Some line) kept taken at = Finds kept taken at

-- up to the place sealed lines were taken of the bytes, and the seal of the first so many is kept,
-- where there are as many
pub record HasSeen (bytes : List ℕ) (p : Place) (kept : SealAt) : Type 0 where
  pub bodies : List (List ℕ)
  pub are : All IsBody bodies
  pub rest : List ℕ
  pub is : bytes ≡ sealed_text bodies ++ rest
  pub left : p.left ≡ Some rest
  pub counted : p.taken ≡ length bodies
  pub sealed : p.seal ≡ seal_of bodies
  pub at : kept.line ≤ length bodies → kept.seal ≡ seal_of (take kept.line bodies)

-- what was taken and kept up to the place is of these bytes, where they are known
abbrev pub IsSeen : Option (List ℕ) → Place → SealAt → Type 0
IsSeen bytes p kept = IfSome bytes (λ text. HasSeen text p kept)
