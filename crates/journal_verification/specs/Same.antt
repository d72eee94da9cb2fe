-- When two databases have the same rows.
use Rattle.std.specs.Prelude.{◌≡◌, ◌⊎◌, ℕ, Bool, true, false, List, [], ◌∷◌, ◌++◌, All}
use Rattle.std.specs.Prelude.{Option, None, Some}
use Rattle.sqlite.specs.Effect.{Database}
use Rattle.sqlite.specs.Held.{Held, state}
use Rattle.sqlite.specs.Order.{Row}
use Rattle.sqlite.specs.State.{Shown}
use Rattle.sqlite.specs.Store.{Ghosts}
use Rattle.sqlite_trees.specs.View.{IsShaped}
use Rattle.sqlite_trees.specs.declared.store.Shape.TheVariants.{Table as TableShape}
use Rattle.journal_faults.specs.declared.difference.Difference.{Difference}
use Rattle.journal_faults.specs.declared.difference.Difference.TheVariants as difference
use Rattle.journal_faults.specs.declared.table.Table.{Table}
use Rattle.journal_verification.specs.Differing.{IsFirstDiffering}
use Rattle.journal_verification.specs.Named.{IsNamed}
use Rattle.journal_verification.specs.Texts.{key_width, rowids_text, rows_text, tables}

-- a connection with this database answers the query by these rows
pub record IsAnsweredBy {S : Type 0} (g : Ghosts S) (sql : List ℕ) (db : Database)
    (rows : List Row) : Type 0 where
  pub old : Held S
  pub new : Held S
  pub now : (state g old).now ≡ db
  pub shown : Shown sql [] (state g old) (state g new) rows

-- the rowids of a table rise
pub record HaveRowids {S : Type 0} (g : Ghosts S) (table : Table) (db : Database) : Type 0 where
  pub rowids : List Row
  pub answered : IsAnsweredBy g (rowids_text table) db rowids
  pub rising : IsShaped TableShape rowids

-- the rowids of a table don't rise
pub record HaveOtherRowids {S : Type 0} (g : Ghosts S) (table : Table)
    (db : Database) : Type 0 where
  pub rowids : List Row
  pub answered : IsAnsweredBy g (rowids_text table) db rowids
  pub fall : IsShaped TableShape rowids → ⊥

-- whether the rowids of a table rise
abbrev pub TellsRowids : {S : Type 0} → Ghosts S → Table → Database → Bool → Type 0
TellsRowids g table db true = HaveRowids g table db
TellsRowids g table db false = HaveOtherRowids g table db

-- a difference is told just where the rowids of a table don't rise, and is that of the table
abbrev pub FaultsRowids : {S : Type 0} → Ghosts S → Table → Database → Option Difference → Type 0
FaultsRowids g table db None = HaveRowids g table db
FaultsRowids g table db (Some d) = (d ≡ difference.Row table) × HaveOtherRowids g table db

module _ {S T : Type 0} (g : Ghosts S) (f : Ghosts T) where
  -- both have the same rows in a table, and in the second their rowids rise
  pub record HaveSame (table : Table) (first second : Database) : Type 0 where
    pub rows : List Row
    pub in_first : IsAnsweredBy g (rows_text table) first rows
    pub in_second : IsAnsweredBy f (rows_text table) second rows
    pub rowids : HaveRowids f table second

  -- the databases have other rows in a table, of which the difference names one
  pub record HaveOther (table : Table) (first second : Database) (d : Difference) : Type 0 where
    pub left : List Row
    pub right : List Row
    pub in_first : IsAnsweredBy g (rows_text table) first left
    pub in_second : IsAnsweredBy f (rows_text table) second right
    pub row : Row
    pub differs : IsFirstDiffering (key_width table) left right row
    pub named : IsNamed table row d

  -- the rows of a table are the same, or the difference names one that differs
  abbrev pub TellsRows : Table → Database → Database → Option Difference → Type 0
  TellsRows table first second None =
      (rows : List Row) × IsAnsweredBy g (rows_text table) first rows
      × IsAnsweredBy f (rows_text table) second rows
  TellsRows table first second (Some d) = HaveOther table first second d

  -- a table is the same in both; or it differs in a row, or where none does, in the rowids of the
  -- second
  abbrev pub TellsTable : Table → Database → Database → Option Difference → Type 0
  TellsTable table first second None = HaveSame table first second
  TellsTable table first second (Some d) =
      HaveOther table first second d
      ⊎ (TellsRows table first second None × FaultsRowids f table second (Some d))

  -- each table is the same in both
  abbrev pub HaveSameTables : Database → Database → Type 0
  HaveSameTables first second = (table : Table) → HaveSame table first second

  -- the tables before this one are the same, and this one differs where the difference says
  pub record DiffersFirst (first second : Database) (d : Difference) : Type 0 where
    pub before : List Table
    pub table : Table
    pub rest : List Table
    pub parts : tables ≡ before ++ table ∷ rest
    pub same : All (λ t. HaveSame t first second) before
    pub differs : TellsTable table first second (Some d)

  -- each table is the same, or where the first one differs that does
  abbrev pub TellsTables : Database → Database → Option Difference → Type 0
  TellsTables first second None = HaveSameTables first second
  TellsTables first second (Some d) = DiffersFirst first second d
