-- What is reported of lines.
use Rattle.std.specs.Prelude.{ℕ, List, [], ◌∷◌, ◌++◌, length, nat_lt, codes, if◌then◌else◌}

-- the line, or that it is too long
abbrev pub told_line : List ℕ → List ℕ
told_line line = (if nat_lt 300000 (length line) then codes "too-long" else line) ++ 10 ∷ []

abbrev pub told_lines : List (List ℕ) → List ℕ
told_lines [] = []
told_lines (line ∷ lines) = told_line line ++ told_lines lines
