-- The issued revision of a profile without its text, and its row.
use Rattle.std.specs.Prelude.{◌≡◌, ◌<◌, ◌^◌, pos, [], ◌∷◌, length, Option, None, Some}
use Rattle.sqlite.specs.declared.types.Value.TheVariants.{Int, Blob}
use Rattle.sqlite.specs.Order.{Row}
use Rattle.office_words.specs.declared.row.RevisionRow.{RevisionRow}
use Rattle.office_store.specs.declared.briefs.Brief.{Brief}

abbrev pub brief_of : RevisionRow → Brief
brief_of r = record { number = r.number; digest = r.digest }

abbrev pub brief_row : Brief → Row
brief_row b = Int (pos b.number) ∷ Blob b.digest ∷ []

pub record IsBrief (b : Brief) : Type 0 where
  pub number : b.number < 2 ^ 32
  pub digest : length b.digest ≡ 32

-- what is told of such a revision, or that there is none
abbrev pub IsBriefOf : (Option RevisionRow → Type 0) → Option Brief → Type 0
IsBriefOf IsIt None = IsIt None
IsBriefOf IsIt (Some b) = (r : RevisionRow) × IsIt (Some r) × (brief_of r ≡ b)
