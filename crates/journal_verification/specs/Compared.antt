-- What comes of comparing two offices.
use Rattle.std.specs.Prelude.{◌≡◌, ◌⊎◌, Option, None, Some}
use Rattle.sqlite.specs.Held.{Held, state}
use Rattle.sqlite.specs.Store.{Ghosts}
use Rattle.office_words.specs.Tables.{Tables}
use Rattle.office_store.specs.Schema.{office_schema}
use Rattle.office_store.specs.Shown.{Shows}
use Rattle.journal_faults.specs.declared.difference.Difference.{Difference}
use Rattle.journal_faults.specs.declared.difference.Difference.TheVariants as difference
use Rattle.journal_verification.specs.Same.{TellsTables}

module _ {S T : Type 0} (g : Ghosts S) (f : Ghosts T) where
  -- the second is of another schema; or it is of that of an office, and a table of it differs
  abbrev pub Differs : Held S → Held T → Difference → Type 0
  Differs built office d =
      ((d ≡ difference.Schema) × ((state f office).now.schema ≡ office_schema → ⊥))
      ⊎ (((state f office).now.schema ≡ office_schema)
      × TellsTables g f (state g built).now (state f office).now (Some d))

  -- where the first shows these tables the second, as it is then, shows them too, or differs
  abbrev pub TellsOffice : Tables → (built : Held S) → (old new : Held T)
      → Option Difference → Type 0
  TellsOffice t built old new None = Shows (state f new) t
  TellsOffice t built old new (Some d) = Differs built old d
