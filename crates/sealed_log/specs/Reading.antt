-- What a reader finds.
use Rattle.std.specs.Prelude.{◌≡◌, ◌≤◌, ◌+◌, ℕ, List, [], ◌∷◌, ◌++◌, length, take, drop, Option}
use Rattle.std.specs.Prelude.{Some, None, Vec}
use Rattle.std.specs.declared.alloc.Global.{Global}
use Rattle.sealed_log.specs.Sealed.{IsBody, seal_on, sealed_line, sealed_lines, last_seal}
use Rattle.sealed_log.specs.Sealed.{sealed_text, seal_of}
use Rattle.sealed_log.specs.Told.{told_behind, told}
use Rattle.sealed_log.specs.declared.reader.Reader.{Reader}
use Rattle.sealed_log.specs.declared.through.Through.{Through}

-- what bytes tell from where a reader stands
abbrev pub told_at : Reader → List ℕ → List (List ℕ)
told_at reader bytes = told_behind reader.seal (drop reader.at bytes)

-- the reader read the next body
pub record IsStep (bytes : List ℕ) (old new : Reader) (body : List ℕ) : Type 0 where
  pub is_body : IsBody body
  pub told : told_at old bytes ≡ body ∷ told_at new bytes
  pub text : drop old.at bytes ≡ sealed_line old.seal body ++ drop new.at bytes
  pub seal : new.seal ≡ seal_on old.seal body
  pub at : new.at ≡ old.at + length (sealed_line old.seal body)

-- the reader read the next body, or stands where what is sealed ends
abbrev pub IsNext : List ℕ → Reader → Reader → Option (Vec ℕ Global) → Type 0
IsNext bytes old new None = (new ≡ old) × (told_at old bytes ≡ [])
IsNext bytes old new (Some body) = IsStep bytes old new body.items

-- what the reader found so far, and what it is to find
pub record IsSoFar (bytes : List ℕ) (reader : Reader) (lines : ℕ) : Type 0 where
  pub text : sealed_text (told bytes)
      ≡ take reader.at bytes ++ sealed_lines reader.seal (told_at reader bytes)
  pub seal : seal_of (told bytes) ≡ last_seal reader.seal (told_at reader bytes)
  pub counted : length (told bytes) ≡ lines + length (told_at reader bytes)

-- all that bytes tell was found: where that ends, its seal, and how many lines it has
pub record IsThrough (bytes : List ℕ) (through : Through) : Type 0 where
  pub text : sealed_text (told bytes) ≡ take through.at bytes
  pub seal : through.seal ≡ seal_of (told bytes)
  pub len : through.len ≡ length bytes
  pub within : through.at ≤ length bytes
  pub lines : through.lines ≡ length (told bytes)
