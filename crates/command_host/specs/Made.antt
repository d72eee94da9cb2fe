-- A file that a command made is removed again, or left.
use Rattle.std.specs.Prelude.{◌≡◌, ◌⊎◌, ◌<◌, ℕ, Bool, true, false, Result, Ok, Err, ⊤}
use Rattle.std.specs.declared.io.Error.{Error}

-- a file was asked how many bytes it has, and removed where it has none; else it was left
abbrev pub IsCleared : (Measured : Result ℕ Error → Type 0) (Cleared : Result ⊤ Error → Type 0)
    → Result ⊤ Error → Type 0
IsCleared Measured Cleared result =
    (Measured (Ok 0) × Cleared result)
    ⊎ ((len : ℕ) × Measured (Ok len) × (0 < len) × (result ≡ Ok (tt {0})))
    ⊎ ((e : Error) × Measured (Err e) × (result ≡ Err e))

-- that was done where it was locked, and its path led to it; else it was left
abbrev pub IsLetGo : (Locked Led : Bool → Type 0) (Measured : Result ℕ Error → Type 0)
    (Cleared : Result ⊤ Error → Type 0) → Result ⊤ Error → Type 0
IsLetGo Locked Led Measured Cleared result =
    ((Locked false ⊎ Led false) × (result ≡ Ok (tt {0})))
    ⊎ (Locked true × Led true × IsCleared Measured Cleared result)
