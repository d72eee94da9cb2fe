-- Calls of read that failed.
use Rattle.std.specs.Prelude.{◌≡◌, ◌≢◌, ℕ, List, Bool, true, Result, Ok, Err}
use Rattle.std.specs.IoError.{error_kind}
use Rattle.std.specs.declared.io.Error.{Error}
use Rattle.std.specs.declared.io.ErrorKind.TheVariants as kind

-- a call of read on a file failed, and wasn't interrupted, where this is known as it gives something
pub record CallFailed {F : Type 0} (Gives : F → F → Result ℕ Error → List ℕ → Type 0) : Type 0 where
  pub old : F
  pub new : F
  pub error : Error
  pub bytes : List ℕ
  pub call : Gives old new (Err error) bytes
  pub failed : error_kind error ≢ kind.Interrupted

-- a call that failed, and wasn't interrupted, is noted; no other call changes a note
abbrev pub IsNoted : (old new : Bool) → Result ℕ Error → Type 0
IsNoted old new (Ok count) = new ≡ old
IsNoted old new (Err e) =
    (error_kind e ≡ kind.Interrupted → new ≡ old) × (error_kind e ≢ kind.Interrupted → new ≡ true)
