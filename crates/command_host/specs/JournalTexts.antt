-- The text of a journal in a file.
use Rattle.std.specs.Prelude.{◌≡◌, ℕ, List, Option, Result, Ok, Err}
use Rattle.std.specs.declared.io.Error.{Error}
use Rattle.command_host.specs.declared.fault.CommandFault.{CommandFault}
use Rattle.command_host.specs.declared.fault.CommandFault.TheVariants as fault

-- a file was opened, of which this is known, and these are its bytes, where they are known
pub record IsTextAt {F : Type 0} (Opened : Result F Error → Type 0) (bytes_of : F → Option (List ℕ))
    (text : Option (List ℕ)) : Type 0 where
  pub file : F
  pub opened : Opened (Ok file)
  pub bytes : text ≡ bytes_of file

-- no journal can be opened; or one was, and there was no memory to read it
abbrev pub IsNoText : {F : Type 0} → (Result F Error → Type 0) → CommandFault → Type 0
IsNoText Opened fault.Open = (e : Error) × Opened (Err e)
IsNoText {F} Opened (fault.NoMemory _) = (file : F) × Opened (Ok file)
IsNoText Opened _ = ⊥
