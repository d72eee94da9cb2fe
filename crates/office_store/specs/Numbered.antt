-- Revisions by number and state alone, and their rows.
use Rattle.std.specs.Prelude.{◌≡◌, ◌<◌, ◌^◌, pos, [], ◌∷◌, Option, Some, None}
use Rattle.sqlite.specs.declared.types.Value.TheVariants.{Int}
use Rattle.sqlite.specs.Order.{Row}
use Rattle.office_words.specs.declared.row.RevisionRow.{RevisionRow}
use Rattle.office_store.specs.declared.numbers.Numbered.{Numbered}
use Rattle.office_store.specs.Entries.{state_number}

abbrev pub numbered_of : RevisionRow → Numbered
numbered_of r = record { number = r.number; state = r.state }

abbrev pub numbered_row : Numbered → Row
numbered_row n = Int (pos n.number) ∷ Int (pos (state_number n.state)) ∷ []

abbrev pub IsNumbered : Numbered → Type 0
IsNumbered n = n.number < 2 ^ 32

-- the number and the state of such a revision, or that there is none
abbrev pub IsNumberedOf : (Option RevisionRow → Type 0) → Option Numbered → Type 0
IsNumberedOf IsIt None = IsIt None
IsNumberedOf IsIt (Some n) = (r : RevisionRow) × IsIt (Some r) × (numbered_of r ≡ n)
