-- What a CREATE INDEX of a known text makes of a database, whatever the rows of its tables.
use Rattle.std.proofs.Common.{inl, inr, ◌≡◌, ℕ, List, [], ◌∷◌, Option, None, Some, Ok, Err, Result, sym, ap, subst, ◌∙◌}
use Rattle.std.specs.Prelude.{slice_get}
use Rattle.std.specs.List.{AllByRecursion}
use Rattle.sqlite.specs.Order.{Row}
use Rattle.sqlite.specs.Table.{Table}
use Rattle.sqlite_schema.specs.declared.schema.Index.{Index}
use Rattle.sqlite.specs.Schema.{Schema}
use Rattle.sqlite.specs.Store.{Ghosts}
use Rattle.sqlite.specs.Tree.{Trees}
use Rattle.sqlite.specs.Command.TheVariants.{CreateIndex}
use Rattle.sqlite.specs.declared.error.Error.{Error}
use Rattle.sqlite.specs.declared.run.Mode.{Mode}
use Rattle.sqlite.specs.Change.{indexed, KeepsRows}
use Rattle.sqlite.specs.Compile.{index_defined_by}
use Rattle.sqlite.specs.Does.{Tally, Does, AtPlace, Defines, MakesIndex}
use Rattle.sqlite.specs.Effect.{Database, IsDatabase, alter_error}
use Rattle.sqlite.specs.Held.{state}
use Rattle.sqlite.specs.Listing.{understood}
use Rattle.sqlite.specs.Rows.{Part}
use Rattle.sqlite.specs.State.{State, Writes, Executes, mode_of}
use Rattle.sqlite.proofs.Callers.{statement_of, runs_as}
use Rattle.sqlite_catalog.specs.Calls.{RefusesIndex}
use Rattle.sqlite_catalog.specs.declared.error.Refusal as alter
use Rattle.sqlite_catalog.specs.declared.error.Refusal.TheVariants as refusal
use Rattle.sqlite_resolve.specs.declared.error.CompileError.{CompileError}
use Rattle.office_rows.specs.Faults.{IsOfMachine}
use Rattle.office_rows.proofs.Plain.{Means}
use Rattle.office_rows.proofs.Failing.{write_failed}
use Rattle.office_rows.proofs.Leading.{Makes}
use Rattle.office_rows.proofs.Creating.{HasEmptyTables}
use Rattle.office_rows.proofs.Writing.{went, same_value}

-- the text makes this index of the table at this place
pub record MakesIndexOn (schema : Schema) (at : ℕ) (table : Table) (sql : List ℕ) (index : Index) : Type 0 where
  pub there : slice_get schema.tables at ≡ Some table
  pub means : Means schema sql (CreateIndex at)
  pub defined : index_defined_by table (statement_of sql (understood schema sql)) ≡ Ok index

still_empty : (tables : List Table) (old new : Trees) → KeepsRows tables old new → AllByRecursion (λ t. old t.tree ≡ []) tables → AllByRecursion (λ t. new t.tree ≡ []) tables
still_empty [] old new same empty = tt
still_empty (t ∷ tables) old new same empty = (same.0 ∙ empty.0, still_empty tables old new same.1 empty.1)

module _ (schema : Schema) (at : ℕ) (table : Table) (sql : List ℕ) (index : Index) (makes : MakesIndexOn schema at table sql index) where
  abbrev text : List ℕ
  text = statement_of sql (understood schema sql)

  -- the index is there, the trees list the schema and obey it, and its tables have the rows that they had
  pub record Indexes (old new : Database) : Type 0 where
    pub schema_is : new.schema ≡ indexed schema table index
    pub sound : IsDatabase new
    pub rows : KeepsRows schema.tables old.trees new.trees

  indexes : (params : Row) (old new : State) (count : ℕ) → old.now.schema ≡ schema → Executes sql params old new (Ok count) → Indexes old.now new.now
  indexes params old new count has ran =
      let w : Writes old new None (CreateIndex at) text params count = runs_as sql params old new schema has (CreateIndex at) makes.means.is makes.means.plain count ran in
      let placed = subst (λ (o : Option Table). AtPlace (λ t. Defines (mode_of old) (MakesIndex text old.now t)) o (Ok (w.tally, new.now))) (ap (λ (s : Schema). slice_get s.tables at) has ∙ makes.there) w.changed in
      let all = went placed in
      let made = all.1 in
      let both : ◌≡◌ {A = Result Index CompileError} (Ok made.index) (Ok index) = sym made.defined ∙ makes.defined in
      let is : all.0.schema ≡ indexed schema table index = made.is ∙ ap (λ s. indexed s table made.index) has ∙ ap (indexed schema table) (same_value both) in
      let now : new.now ≡ all.0 = ap (λ (p : Tally × Database). p.1) (same_value all.2) in
      let rows : KeepsRows schema.tables old.now.trees all.0.trees = subst (λ (s : Schema). KeepsRows s.tables old.now.trees all.0.trees) has made.rows in
      record {
        schema_is = ap (λ (d : Database). d.schema) now ∙ is;
        sound = w.sound;
        rows = subst (λ (d : Database). KeepsRows schema.tables old.now.trees d.trees) (sym now) rows;
      }

  index_of_machine : (db : Database) (e : Error) → MakesIndex text db table (Err (Some e)) → IsOfMachine e
  index_of_machine db e (inl no_text) = rw no_text.1 (λ h. cc, λ h. cc)
  index_of_machine db e (inr (why, refused, is)) = rw is (of_machine why refused)
    where
      of_machine : (why : alter.Refusal) → RefusesIndex db.schema db.trees table text why → IsOfMachine (alter_error why)
      of_machine (refusal.Invalid fault) invalid = absurd (let z = sym makes.defined ∙ invalid in cc)
      of_machine refusal.NameTaken h = (λ h. cc, λ h. cc)
      of_machine refusal.BadName h = (λ h. cc, λ h. cc)
      of_machine refusal.BadKey h = absurd h
      of_machine refusal.BadText h = (λ h. cc, λ h. cc)
      of_machine refusal.TooBig h = (λ h. cc, λ h. cc)
      of_machine (refusal.Violates rule) h = (λ h. cc, λ h. cc)

  defines_of_machine : (mode : Mode) (Made : Part Database) → ((e : Error) → Made (Err (Some e)) → IsOfMachine e) → (e : Error) → Defines mode Made (Err (Some e)) → IsOfMachine e
  defines_of_machine mode Made made e (inl stopped) = made e (subst (λ s. Made (Err s)) (let k : stopped.0 ≡ Some e = cc in k) stopped.1)
  defines_of_machine mode Made made e (inr went) = absurd (let z = went.2 in cc)

  does_index : (limit : Option ℕ) (mode : Mode) (params : Row) (db : Database) → db.schema ≡ schema → (e : Error) → Does limit mode params db text None (CreateIndex at) (Err (Some e)) → IsOfMachine e
  does_index limit mode params db has e h =
      defines_of_machine mode (MakesIndex text db table) (index_of_machine db) e
      (subst (λ (o : Option Table). AtPlace (λ t. Defines mode (MakesIndex text db t)) o (Err (Some e))) (ap (λ (s : Schema). slice_get s.tables at) has ∙ makes.there) h)

  -- a step from any databases of the schema to what the index leaves of them
  pub index_step : {S : Type 0} (g : Ghosts S) (First Second : Database → Type 0) → ((db : Database) → First db → db.schema ≡ schema) → ((old new : Database) → First old → Indexes old new → Second new)
      → Makes g (record { sql = sql; params = [] }) First Second
  index_step g First Second has leaves = record {
    ok = λ old new count before ran. leaves (state g old).now (state g new).now before (indexes [] (state g old) (state g new) count (has (state g old).now before) ran);
    err = λ old new e before failed. write_failed schema sql [] (CreateIndex at) does_index (state g old) (state g new) e (has (state g old).now before) makes.means failed;
  }

  -- the tables are empty as before
  pub indexed_step : {S : Type 0} (g : Ghosts S) → Makes g (record { sql = sql; params = [] }) (HasEmptyTables schema) (HasEmptyTables (indexed schema table index))
  indexed_step g =
      index_step g (HasEmptyTables schema) (HasEmptyTables (indexed schema table index)) (λ db before. before.schema_is)
      (λ old new before it. record { schema_is = it.schema_is; empty = still_empty schema.tables old.trees new.trees it.rows before.empty })
