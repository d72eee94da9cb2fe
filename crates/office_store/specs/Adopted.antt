-- The baseline that an answer stands for, and its row.
use Rattle.std.specs.Prelude.{ℕ, List}
use Rattle.sqlite.specs.Order.{Row}
use Rattle.office_words.specs.Tables.{Baseline}
use Rattle.office_store.specs.declared.baselines.Adopted.{Adopted}
use Rattle.office_store.specs.Entries.{adopted_row, IsBaseline}

abbrev pub baseline_of : Adopted → Baseline
baseline_of a = record { profile = a.profile; number = a.number }

abbrev pub row_of_adopted : Adopted → Row
row_of_adopted a = adopted_row (baseline_of a)

-- of some team
abbrev pub IsAdopted : Adopted → Type 0
IsAdopted a = (team : List ℕ) × IsBaseline (team, baseline_of a)
