-- Which lines of a stream were handed out.
use Rattle.std.specs.Prelude.{◌≡◌, ℕ, List, [], ◌∷◌, ◌++◌, Option}
use Rattle.std.specs.Io.KnownBytes.{Consumes}
use Rattle.streams.specs.Held.{Held, Holds}
use Rattle.streams.specs.Lines.{first_line, lines_of, EndsLine}

-- what was read of the stream are these lines, each with its line feed, and then what is held
pub record Handed (held : Held) (before now : Option (List ℕ)) (lines : List (List ℕ))
    : Type 0 where
  pub whole : List ℕ
  pub rest : List ℕ
  pub read : Consumes before now (whole ++ rest)
  pub ended : EndsLine whole
  pub lines_are : lines ≡ lines_of whole
  pub holds : Holds held rest

-- the lines that were handed out stay the same, whichever they are
abbrev pub KeepsHanded : (old new : Held) (was now : Option (List ℕ)) → Type 0
KeepsHanded old new was now = (before : Option (List ℕ)) (lines : List (List ℕ)) →
    Handed old before was lines → Handed new before now lines

-- the first of the lines that are held was handed out too
abbrev pub HandsOut : (old new : Held) → Type 0
HandsOut old new = (before now : Option (List ℕ)) (lines : List (List ℕ)) →
    (so_far : Handed old before now lines)
    → Handed new before now (lines ++ first_line so_far.rest ∷ [])
