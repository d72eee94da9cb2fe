-- What the statements of a write make of the tables, one after the other.
use Rattle.std.specs.Prelude.{◌≡◌, ℕ, List, [], ◌∷◌, Ok, Err}
use Rattle.sqlite.specs.declared.error.Error.{Error}
use Rattle.sqlite.specs.Order.{Row}
use Rattle.sqlite.specs.Store.{Ghosts}
use Rattle.sqlite.specs.State.{Executes, ExecutesInside}
use Rattle.sqlite.specs.Held.{Held, state}
use Rattle.office_words.specs.Tables.{Tables}
use Rattle.office_rows.specs.Faults.{IsOfMachine}
use Rattle.office_rows.specs.Statements.{Statement}
use Rattle.office_store.specs.Shown.{IsOffice}

abbrev pub statement : List ℕ → Row → Statement
statement sql params = record { sql = sql; params = params }

module _ {S : Type 0} (g : Ghosts S) where
  -- the statement makes these tables of those, and where it fails it isn't for the form of the
  -- tables
  pub record IsStep (s : Statement) (t u : Tables) : Type 0 where
    pub ok : (old new : Held S) (count : ℕ) → IsOffice (state g old).now t
        → Executes s.sql s.params (state g old) (state g new) (Ok count)
        → IsOffice (state g new).now u
    pub err : (old new : Held S) (e : Error) → IsOffice (state g old).now t
        → ExecutesInside 0 s.sql s.params (state g old) (state g new) (Err e)
        → IsOfMachine e

  -- the statements, one after the other, make the second tables of the first
  abbrev pub AreSteps : List Statement → Tables → Tables → Type 0
  AreSteps [] t u = t ≡ u
  AreSteps (s ∷ ss) t u = (mid : Tables) × IsStep s t mid × AreSteps ss mid u
