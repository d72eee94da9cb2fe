-- What a CREATE TABLE of a known text makes of a database whose tables are empty.
use Rattle.std.proofs.Common.{◌≡◌, ℕ, List, [], ◌∷◌, ◌++◌, false, None, Ok, Result, sym, ap, subst, ◌∙◌}
use Rattle.std.specs.List.{AllByRecursion}
use Rattle.sqlite.specs.Table.{Table}
use Rattle.sqlite.specs.Schema.{Schema}
use Rattle.sqlite.specs.Order.{Row}
use Rattle.sqlite.specs.Command.TheVariants.{CreateTable}
use Rattle.sqlite.specs.Compile.{table_defined_by}
use Rattle.sqlite.specs.Change.{created, next_tree, KeepsRows}
use Rattle.sqlite.specs.Does.{Tally, lacks_sequence}
use Rattle.sqlite.specs.Effect.{Database}
use Rattle.sqlite.specs.Tree.{Trees}
use Rattle.sqlite.specs.Listing.{understood}
use Rattle.sqlite.specs.State.{State, Writes, Executes}
use Rattle.sqlite.proofs.Callers.{statement_of, runs_as}
use Rattle.sqlite_resolve.specs.declared.error.CompileError.{CompileError}
use Rattle.sqlite.specs.Store.{Ghosts}
use Rattle.sqlite.specs.Held.{state}
use Rattle.office_rows.proofs.Plain.{Means}
use Rattle.office_rows.proofs.Failing.{create_failed}
use Rattle.office_rows.proofs.Leading.{Makes}
use Rattle.office_rows.proofs.Writing.{went, same_value}

-- the database has this schema, and no table has a row
pub record HasEmptyTables (schema : Schema) (db : Database) : Type 0 where
  pub schema_is : db.schema ≡ schema
  pub empty : AllByRecursion (λ t. db.trees t.tree ≡ []) schema.tables

still_empty : (tables : List Table) (old new : Trees) → KeepsRows tables old new → AllByRecursion (λ t. old t.tree ≡ []) tables → AllByRecursion (λ t. new t.tree ≡ []) tables
still_empty [] old new same empty = tt
still_empty (t ∷ tables) old new same empty = (same.0 ∙ empty.0, still_empty tables old new same.1 empty.1)

one_more : (P : Table → Type 0) (tables : List Table) (t : Table) → AllByRecursion P tables → P t → AllByRecursion P (tables ++ t ∷ [])
one_more P [] t all last = (last, tt)
one_more P (s ∷ tables) t all last = (all.0, one_more P tables t all.1 last)

-- the text makes this table, which counts no rowids
pub record MakesTable (schema : Schema) (sql : List ℕ) (table : Table) : Type 0 where
  pub means : Means schema sql CreateTable
  pub defined : table_defined_by (statement_of sql (understood schema sql)) ≡ Ok table
  pub lacks : lacks_sequence (created schema table) ≡ false

-- the table is there, and empty
pub creates : (sql : List ℕ) (params : Row) (table : Table) (schema : Schema) (makes : MakesTable schema sql table) (old new : State) (count : ℕ)
    → HasEmptyTables schema old.now → Executes sql params old new (Ok count) → HasEmptyTables (created schema table) new.now
creates sql params table schema makes old new count before ran =
    let text = statement_of sql (understood schema sql) in
    let w : Writes old new None CreateTable text params count = runs_as sql params old new schema before.schema_is CreateTable makes.means.is makes.means.plain count ran in
    let all = went w.changed in
    let first = went all.1 in
    let made = first.1 in
    let both : ◌≡◌ {A = Result Table CompileError} (Ok made.table) (Ok table) = sym made.defined ∙ makes.defined in
    let is : first.0.schema ≡ created schema table = made.is ∙ ap (λ s. created s made.table) before.schema_is ∙ ap (created schema) (same_value both) in
    let none : lacks_sequence first.0.schema ≡ false = ap lacks_sequence is ∙ makes.lacks in
    let now : new.now ≡ first.0 = ap (λ (p : Tally × Database). p.1) (same_value all.2) ∙ same_value (rw none at first.2) in
    let empty : first.0.trees (next_tree schema) ≡ [] = subst (λ s. first.0.trees (next_tree s) ≡ []) before.schema_is made.empty in
    let others : KeepsRows schema.tables old.now.trees first.0.trees = subst (λ (s : Schema). KeepsRows s.tables old.now.trees first.0.trees) before.schema_is made.others in
    subst (HasEmptyTables (created schema table)) (sym now)
    (record {
      schema_is = is;
      empty = one_more (λ t. first.0.trees t.tree ≡ []) schema.tables (record table { tree = next_tree schema }) (still_empty schema.tables old.now.trees first.0.trees others before.empty) empty;
    })

pub created_step : {S : Type 0} (g : Ghosts S) (sql : List ℕ) (table : Table) (schema : Schema) → MakesTable schema sql table
    → Makes g (record { sql = sql; params = [] }) (HasEmptyTables schema) (HasEmptyTables (created schema table))
created_step g sql table schema makes = record {
  ok = λ old new count before ran. creates sql [] table schema makes (state g old) (state g new) count before ran;
  err = λ old new e before failed. create_failed sql [] table schema (state g old) (state g new) e before.schema_is makes.means makes.defined makes.lacks failed;
}
