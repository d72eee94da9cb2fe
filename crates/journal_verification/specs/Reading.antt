-- The rows of an answer, read one at a time.
use Rattle.std.specs.Prelude.{◌≡◌, ◌⊎◌, ℕ, List, [], ◌∷◌, ◌++◌, length, take, slice_get}
use Rattle.std.specs.Prelude.{Option, None, Some, IsTrue}
use Rattle.sqlite.specs.Effect.{Database}
use Rattle.sqlite.specs.Given.{HasGiven}
use Rattle.sqlite.specs.Held.{Held, state}
use Rattle.sqlite.specs.Order.{Row}
use Rattle.sqlite.specs.State.{IsUnchanged}
use Rattle.sqlite.specs.Store.{Ghosts}
use Rattle.journal_faults.specs.declared.difference.Difference.{Difference}
use Rattle.journal_faults.specs.declared.table.Table.{Table}
use Rattle.journal_verification.specs.Same.{HaveOther, IsAnsweredBy}
use Rattle.journal_verification.specs.Texts.{rowids_text, rows_text}

-- the query is one of a table of an office
abbrev pub IsOfTable : List ℕ → Type 0
IsOfTable sql = (table : Table) × ((sql ≡ rows_text table) ⊎ (sql ≡ rowids_text table))

module _ {S : Type 0} (g : Ghosts S) where
  -- the connection has given these rows of the answer to a query without parameters
  abbrev pub IsAt : List ℕ → Held S → List Row → Type 0
  IsAt sql held given = HasGiven g sql [] held given

  -- the connection gives the rows of a query of a table
  abbrev pub IsGiving : Held S → Type 0
  IsGiving held = (sql : List ℕ) × IsOfTable sql × (given : List Row) × IsAt sql held given

  -- behind these rows it has given this one, or they were the whole answer
  abbrev pub HasNext : List ℕ → Held S → List Row → Option Row → Type 0
  HasNext sql held before (Some row) = IsAt sql held (before ++ row ∷ [])
  HasNext sql held before None = IsAnsweredBy g sql (state g held).now before

  -- whatever it had given, this row was next, or that was the whole answer
  abbrev pub GivesNext : Held S → Held S → Option Row → Type 0
  GivesNext old new next =
      (sql : List ℕ) (given : List Row) → IsAt sql old given → HasNext sql new given next

  -- whatever it had given, the answer begins with that
  abbrev pub GivesRest : Held S → Database → Type 0
  GivesRest old db =
      (sql : List ℕ) (given : List Row) → IsAt sql old given
      → (more : List Row) × IsAnsweredBy g sql db (given ++ more)

  -- the answer has this row behind these, or ends there
  pub record HasBehind (sql : List ℕ) (db : Database) (before : List Row)
      (next : Option Row) : Type 0 where
    pub rows : List Row
    pub answered : IsAnsweredBy g sql db rows
    pub begins : take (length before) rows ≡ before
    pub there : slice_get rows (length before) ≡ next

  -- whatever it had given before this row, or before its end, the answer has it there
  abbrev pub GivesBehind : Held S → Option Row → Database → Type 0
  GivesBehind old next db =
      (sql : List ℕ) (before : List Row) → HasNext sql old before next
      → HasBehind sql db before next

  -- the connection is open and as it was, and has given this row, or that it was at the end
  abbrev pub ReadsNext : Held S → Held S → Option Row → Type 0
  ReadsNext old new next = IsUnchanged (state g old) (state g new) × GivesNext old new next

  -- an open connection is as it was, and all behind this row was read
  abbrev pub ReadsRest : Held S → Held S → Option Row → Type 0
  ReadsRest old new next =
      (IsTrue (state g old).is_open → IsUnchanged (state g old) (state g new))
      × GivesBehind old next (state g new).now

module _ {S T : Type 0} (g : Ghosts S) (f : Ghosts T) where
  -- behind the same rows of a table both have given the same row, or have no more; or they have other
  -- rows there
  abbrev pub TellsNext : Table → Held S → Held T → List Row → Option Row → Option Difference
      → Type 0
  TellsNext table built office before next None =
      HasNext g (rows_text table) built before next
      × HasNext f (rows_text table) office before next
  TellsNext table built office before next (Some d) =
      HaveOther g f table (state g built).now (state f office).now d
