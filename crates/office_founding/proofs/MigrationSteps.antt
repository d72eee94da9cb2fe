-- What the statements of a migration make of an office of schema 1.
use Rattle.std.proofs.Common.{◌≡◌, ◌≢◌, ℕ, pos, List, [], ◌∷◌, map, true, false, not, cond, Option, None, Ok, Result, refl, sym, ap, subst, ◌∙◌, arith}
use Rattle.std.specs.Prelude.{drop}
use Rattle.std.specs.List.{AllByRecursion}
use Rattle.std.specs.Ordering.{is_eq}
use Rattle.sqlite_value.proofs.OrderLemmas.{value_cmp-Int}
use Rattle.std.proofs.lemmas.List.Sorted.{IsPermutation-refl}
use Rattle.sqlite.specs.declared.types.Value.TheVariants.{Null, Int}
use Rattle.sqlite.specs.declared.error.Error.{Error}
use Rattle.sqlite.specs.Order.{Row}
use Rattle.sqlite.specs.Table.{Table}
use Rattle.sqlite.specs.Schema.{Schema}
use Rattle.sqlite.specs.Term.{Term, lit, col}
use Rattle.sqlite.specs.Cast.{cast_row}
use Rattle.sqlite.specs.Store.{Ghosts}
use Rattle.sqlite.specs.Command.TheVariants.{CreateTable, Update}
use Rattle.sqlite.specs.Change.{created, next_tree, KeepsRows}
use Rattle.sqlite.specs.Does.{Tally, Does, OnRows, AtPlace, lacks_sequence}
use Rattle.sqlite.specs.Edit.{edit_of}
use Rattle.sqlite.specs.Effect.{Database}
use Rattle.sqlite.specs.Held.{Held, state}
use Rattle.sqlite.specs.Listing.{understood}
use Rattle.sqlite.specs.Program.{overlay}
use Rattle.sqlite.specs.Rows.{Task, Written}
use Rattle.sqlite.specs.Rowids.TheVariants.{Given}
use Rattle.sqlite.specs.State.{State, Writes, Executes, mode_of}
use Rattle.sqlite.specs.Tree.{Trees}
use Rattle.sqlite_rules.specs.Edit.{numbered, put_all, without_all, taken_by}
use Rattle.sqlite_rules.specs.Calls.{ids_of}
use Rattle.sqlite_resolve.specs.declared.error.CompileError.{CompileError}
use Rattle.sqlite_tied.specs.Compute.{everything}
use Rattle.sqlite.proofs.Callers.{statement_of, runs_as, one_step, one_permutation}
use Rattle.office_words.specs.Tables.{Tables}
use Rattle.office_rows.specs.Entries.{Keeps}
use Rattle.office_rows.specs.Faults.{IsOfMachine}
use Rattle.office_rows.specs.Statements.{RanAll, FailedIn}
use Rattle.office_rows.proofs.Plain.{plain_query, Means}
use Rattle.office_rows.proofs.Reading.{answered_kept}
use Rattle.office_rows.proofs.Failing.{create_failed, update_failed}
use Rattle.office_rows.proofs.Leading.{Makes, Leads, goes, ends, all_led, none_led}
use Rattle.office_rows.proofs.Creating.{MakesTable}
use Rattle.office_rows.proofs.Writing.{WritesIn, went, same_value}
use Rattle.office_store.specs.declared.schema.TheConstants.{CREATE_HOLDS, CREATE_BY_STATE, CREATE_BY_AUTHOR}
use Rattle.office_founding.specs.declared.migration.TheConstants.{RENUMBER}
use Rattle.office_store.specs.Schema.{old_schema, tables_schema, by_state, by_author, office_schema, office_table, revisions_table, holds_table}
use Rattle.office_store.specs.Shown.{office_row, IsOffice}
use Rattle.office_founding.specs.Migration.{old_office_row, IsOldOffice, migration}
use Rattle.office_store.proofs.Columns.{cast_null, cast_int}
use Rattle.office_founding.proofs.Indexing.{index_step}
use Rattle.office_store.proofs.Lenses.{moved}
use Rattle.office_founding.proofs.FoundingSteps.{holds_made, with_states, states_made, authors_made, is_offices, none_stored}

-- ---- a table is added

module _ (schema : Schema) (table : Table) (sql : List ℕ) (makes : MakesTable schema sql table) where
  -- the table is there and empty, and the others have the rows that they had
  record Adds (old new : Database) : Type 0 where
    schema_is : new.schema ≡ created schema table
    empty : new.trees (next_tree schema) ≡ []
    rows : KeepsRows schema.tables old.trees new.trees

  adds : (params : Row) (old new : State) (count : ℕ) → old.now.schema ≡ schema → Executes sql params old new (Ok count) → Adds old.now new.now
  adds params old new count has ran =
      let text = statement_of sql (understood schema sql) in
      let w : Writes old new None CreateTable text params count = runs_as sql params old new schema has CreateTable makes.means.is makes.means.plain count ran in
      let all = went w.changed in
      let first = went all.1 in
      let made = first.1 in
      let both : ◌≡◌ {A = Result Table CompileError} (Ok made.table) (Ok table) = sym made.defined ∙ makes.defined in
      let is : first.0.schema ≡ created schema table = made.is ∙ ap (λ s. created s made.table) has ∙ ap (created schema) (same_value both) in
      let none : lacks_sequence first.0.schema ≡ false = ap lacks_sequence is ∙ makes.lacks in
      let now : new.now ≡ first.0 = ap (λ (p : Tally × Database). p.1) (same_value all.2) ∙ same_value (rw none at first.2) in
      let empty : first.0.trees (next_tree schema) ≡ [] = subst (λ s. first.0.trees (next_tree s) ≡ []) has made.empty in
      let others : KeepsRows schema.tables old.now.trees first.0.trees = subst (λ (s : Schema). KeepsRows s.tables old.now.trees first.0.trees) has made.others in
      subst (Adds old.now) (sym now) (record { schema_is = is; empty = empty; rows = others })

-- ---- the row of the office

abbrev new_columns : List Term
new_columns = col 1 0 ∷ lit Null ∷ lit (Int (pos 2)) ∷ col 1 3 ∷ []

renumber_means : Means office_schema RENUMBER.now (Update 0 (record { lets = []; body = plain_query (col 1 0 ∷ new_columns) [] 0 }))
unfolding understood everything
renumber_means = record { is = refl; plain = (refl, refl); unlisted = refl }

abbrev old_columns : ℕ → Row
old_columns listed = Null ∷ Int (pos 1) ∷ Int (pos listed) ∷ []

abbrev renumbered : ℕ → Row
renumbered listed = Int (pos 1) ∷ office_row listed

cast_office : (listed : ℕ) → cast_row (office_table 0) (office_row listed) ≡ office_row listed
cast_office listed = rw (cast_null, cast_int (pos 1), cast_int (pos 2), cast_int (pos listed))

one_out : (listed : ℕ) → without_all (old_office_row listed ∷ []) (pos 1 ∷ []) ≡ []
one_out listed = ap (λ o. cond (not (is_eq o)) (old_office_row listed ∷ []) []) (value_cmp-Int (pos 1) (pos 1))

-- the one row has the new number, and no other table is written
renumbers : (old new : State) (count listed : ℕ) → old.now.schema ≡ office_schema → old.now.trees 0 ≡ old_office_row listed ∷ [] → Executes RENUMBER.now [] old new (Ok count)
    → WritesIn office_schema 0 old.now new.now × (new.now.trees 0 ≡ office_row listed ∷ [])
renumbers old new count listed has row ran =
    let command = Update 0 (record { lets = []; body = plain_query (col 1 0 ∷ new_columns) [] 0 }) in
    let text = statement_of RENUMBER.now (understood office_schema RENUMBER.now) in
    let w : Writes old new None command text [] count = runs_as RENUMBER.now [] old new office_schema has command renumber_means.is renumber_means.plain count ran in
    let task : Task = record { limit = old.step_limit; keys = (mode_of old).keys; schema = office_schema; table = office_table 0; params = [] } in
    let placed = subst (λ (o : Option Table). AtPlace (λ t. OnRows (record task { table = t }) (mode_of old) None command old.now.trees) o (Ok (w.tally, new.now))) is_offices.there
    (subst (λ s. Does old.step_limit (mode_of old) [] (record old.now { schema = s }) text None command (Ok (w.tally, new.now))) has w.changed) in
    let done = went placed in
    let now : new.now ≡ record { schema = office_schema; trees = done.0.trees } = ap (λ (p : Tally × Database). p.1) (same_value (went (went done.2).2).2) in
    let asked = went done.1 in
    let wrote = went asked.2 in
    let trees : new.now.trees ≡ wrote.0 = ap (λ (d : Database). d.trees) now ∙ ap (λ (it : Written). it.trees) (same_value wrote.2) in
    let edit = edit_of old.now.trees (office_table 0) (ids_of asked.0) Given 1 asked.0 in
    let applied = one_step office_schema _ old.now.trees wrote.0 edit (is_offices.free (taken_by old.now.trees edit) edit.news (mode_of old).keys) wrote.1 in
    let keeps : Keeps old_columns (overlay old.now.trees [] 0) (listed ∷ []) = record { kept = (pos 1, listed) ∷ []; rows_are = row; apart = (tt, tt); same = IsPermutation-refl (listed ∷ []) } in
    let same = answered_kept old_columns (λ k. Int k.0 ∷ Int k.0 ∷ Null ∷ Int (pos 2) ∷ Int (pos k.1) ∷ []) (λ listed. true) (col 1 0 ∷ new_columns) [] [] (λ k. refl) (λ k. refl) (overlay old.now.trees []) 0 asked.0 (listed ∷ []) (asked.1.answer Null) keeps in
    let only : asked.0 ≡ renumbered listed ∷ [] = one_permutation (renumbered listed) asked.0 same in
    let rows : wrote.0 0 ≡ put_all (without_all (old.now.trees 0) (ids_of asked.0)) (numbered Given (without_all (old.now.trees 0) (ids_of asked.0)) (map (λ s. cast_row (office_table 0) (drop 1 s)) asked.0)) = applied.rows in
    let placed_rows : wrote.0 0 ≡ put_all (without_all (old_office_row listed ∷ []) (pos 1 ∷ [])) (cast_row (office_table 0) (office_row listed) ∷ []) =
    subst (λ (p : List Row × List Row). wrote.0 0 ≡ put_all (without_all p.0 (ids_of p.1)) (numbered Given (without_all p.0 (ids_of p.1)) (map (λ s. cast_row (office_table 0) (drop 1 s)) p.1))) (λ i. (row i, only i)) rows in
    let computed : wrote.0 0 ≡ cast_row (office_table 0) (office_row listed) ∷ [] = placed_rows ∙ ap (λ rs. put_all rs (cast_row (office_table 0) (office_row listed) ∷ [])) (one_out listed) in (
      record {
        schema_is = ap (λ (d : Database). d.schema) now;
        sound = w.sound;
        tables = subst (λ (ts : Trees). AllByRecursion (λ t. t.tree ≢ 0 → ts t.tree ≡ old.now.trees t.tree) office_schema.tables) (sym trees) applied.tables;
      },
      ap (λ (ts : Trees). ts 0) trees ∙ computed ∙ ap (λ r. r ∷ []) (cast_office listed),
    )

-- ---- the statements, one after the other

-- the database has this schema, the rows of an office of schema 1, and no row in the table of held profiles
record IsBetween (schema : Schema) (t : Tables) (db : Database) : Type 0 where
  base : Database
  was : IsOldOffice base t
  schema_is : db.schema ≡ schema
  rows : KeepsRows old_schema.tables base.trees db.trees
  none : db.trees 10 ≡ []

none_held : (old new : Database) (t : Tables) → IsOldOffice old t → Adds old_schema (holds_table 0) CREATE_HOLDS.now holds_made old new → IsBetween tables_schema t new
none_held old new t o it = record { base = old; was = o; schema_is = it.schema_is; rows = it.rows; none = it.empty }

-- six tables have the rows that they had
still_between : (next : Schema) (old new : Database) (t : Tables) (schema : Schema) → schema.tables ≡ tables_schema.tables → IsBetween schema t old → new.schema ≡ next → KeepsRows tables_schema.tables old.trees new.trees
    → IsBetween next t new
still_between next old new t schema same before is rows = record {
  base = before.base;
  was = before.was;
  schema_is = is;
  rows = (rows.0 ∙ before.rows.0, (rows.1.0 ∙ before.rows.1.0, (rows.1.1.0 ∙ before.rows.1.1.0, (rows.1.1.1.0 ∙ before.rows.1.1.1.0, (rows.1.1.1.1.0 ∙ before.rows.1.1.1.1.0, tt)))));
  none = rows.1.1.1.1.1.0 ∙ before.none;
}

-- with the new number of its schema it is an office
is_office : (old new : Database) (t : Tables) → IsBetween office_schema t old → WritesIn office_schema 0 old new → new.trees 0 ≡ office_row t.listed ∷ [] → IsOffice new t
is_office old new t b w row =
    let o = b.was in
    let users = w.tables.1.0 (λ e. omega (arith, e)) ∙ b.rows.1.0 in
    let revisions = w.tables.1.1.0 (λ e. omega (arith, e)) ∙ b.rows.1.1.0 in
    let votes = w.tables.1.1.1.0 (λ e. omega (arith, e)) ∙ b.rows.1.1.1.0 in
    let baselines = w.tables.1.1.1.1.0 (λ e. omega (arith, e)) ∙ b.rows.1.1.1.1.0 in
    record {
      schema = w.schema_is;
      sound = w.sound;
      office = row;
      listed = o.listed;
      users = moved (b.base.trees 1) (new.trees 1) users o.users;
      users_are = o.users_are;
      revisions = moved (b.base.trees 4) (new.trees 4) revisions o.revisions;
      revisions_are = o.revisions_are;
      votes = moved (b.base.trees 6) (new.trees 6) votes o.votes;
      votes_are = o.votes_are;
      baselines = moved (b.base.trees 8) (new.trees 8) baselines o.baselines;
      baselines_are = o.baselines_are;
      holds = none_stored (new.trees 10) (w.tables.1.1.1.1.1.0 (λ e. omega (arith, e)) ∙ b.none);
      holds_are = o.none_held;
    }

module _ {S : Type 0} (g : Ghosts S) (t : Tables) where
  holds_step : Makes g (record { sql = CREATE_HOLDS.now; params = [] }) (λ db. IsOldOffice db t) (IsBetween tables_schema t)
  holds_step = record {
    ok = λ old new count before ran. none_held (state g old).now (state g new).now t before (adds old_schema (holds_table 0) CREATE_HOLDS.now holds_made [] (state g old) (state g new) count before.schema ran);
    err = λ old new e before failed. create_failed CREATE_HOLDS.now [] (holds_table 0) old_schema (state g old) (state g new) e before.schema holds_made.means holds_made.defined holds_made.lacks failed;
  }

  number_step : Makes g (record { sql = RENUMBER.now; params = [] }) (IsBetween office_schema t) (λ db. IsOffice db t)
  number_step = record {
    ok = λ old new count before ran.
        let it = renumbers (state g old) (state g new) count t.listed before.schema_is (before.rows.0 ∙ before.was.office) ran in
        is_office (state g old).now (state g new).now t before it.0 it.1;
    err = λ old new e before failed. update_failed RENUMBER.now [] 0 _ office_schema (state g old) (state g new) e before.schema_is renumber_means failed;
  }

  migrates : Leads g (migration []) (λ db. IsOldOffice db t) (λ db. IsOffice db t)
  migrates =
      goes holds_step
      (goes (index_step tables_schema 2 (revisions_table 4) CREATE_BY_STATE.now by_state states_made g (IsBetween tables_schema t) (IsBetween with_states t) (λ db before. before.schema_is)
      (λ old new before it. still_between with_states old new t tables_schema refl before it.schema_is it.rows))
      (goes (index_step with_states 2 (revisions_table 4) CREATE_BY_AUTHOR.now by_author authors_made g (IsBetween with_states t) (IsBetween office_schema t) (λ db before. before.schema_is)
      (λ old new before it. still_between office_schema old new t with_states refl before it.schema_is it.rows))
      (goes number_step ends)))

  -- what the statements leave of an office of schema 1, and why one of them fails
  pub all_migrated : (h : Held S) (db : Database) → IsOldOffice (state g h).now t → RanAll g (migration []) h db → IsOffice db t
  all_migrated h db old ran = all_led g migrates h db old ran

  pub none_migrated : (h end : Held S) (e : Error) → IsOldOffice (state g h).now t → FailedIn g (migration []) h end e → IsOfMachine e
  none_migrated h end e old failed = none_led g migrates h end e old failed
