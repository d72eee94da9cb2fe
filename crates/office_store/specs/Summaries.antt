-- Revisions without their texts, and their rows.
use Rattle.std.specs.Prelude.{◌≡◌, pos, [], ◌∷◌, length}
use Rattle.sqlite.specs.declared.types.Value.TheVariants.{Int, Blob}
use Rattle.sqlite.specs.Order.{Row}
use Rattle.office_words.specs.declared.row.RevisionRow.{RevisionRow}
use Rattle.office_store.specs.declared.summaries.Summary.{Summary}
use Rattle.office_store.specs.Entries.{state_number}

abbrev pub summary_of : RevisionRow → Summary
summary_of r = record { state = r.state; digest = r.digest }

abbrev pub summary_row : Summary → Row
summary_row s = Int (pos (state_number s.state)) ∷ Blob s.digest ∷ []

pub record IsSummary (s : Summary) : Type 0 where
  pub digest : length s.digest ≡ 32
