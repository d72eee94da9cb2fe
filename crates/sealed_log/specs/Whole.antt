-- A file of which nothing stands behind what it tells.
use Rattle.std.specs.Prelude.{◌≡◌, ◌-◌, ◌^◌, ℕ, min, List, length}
use Rattle.sealed_log.specs.Sealed.{sealed_text, seal_of}
use Rattle.sealed_log.specs.Told.{told}

-- how many bytes the file has, or the greatest usize where that is more
abbrev pub IsEnd : List ℕ → ℕ → Type 0
IsEnd file end = end ≡ min (length file) (2 ^ 64 - 1)

-- how many bodies the file tells, or the greatest u64 where that is more
abbrev pub HasLines : List ℕ → ℕ → Type 0
HasLines file lines = lines ≡ min (length (told file)) (2 ^ 64 - 1)

-- the file has just what it tells, and ends here, with this seal and so many lines
pub record IsWhole (file : List ℕ) (here : ℕ) (last : List ℕ) (lines : ℕ) : Type 0 where
  pub text : file ≡ sealed_text (told file)
  pub end : IsEnd file here
  pub seal : last ≡ seal_of (told file)
  pub counted : HasLines file lines
