-- Why a DELETE, an INSERT, an UPDATE or an upsert of a known meaning fails: never for the form of the tables.
use Rattle.std.proofs.Common.{inl, inr, ◌≡◌, ℕ, ℤ, List, [], ◌∷◌, ◌++◌, Bool, true, false, Option, None, Some, Ok, Err, Result, sym, ap, subst, ◌∙◌}
use Rattle.std.specs.Prelude.{MatchBool, slice_get, length}
use Rattle.std.specs.List.{fold}
use Rattle.sqlite.specs.Clock.{timed}
use Rattle.sqlite.specs.Edit.{edit_of}
use Rattle.sqlite_rules.specs.Edit.{taken_by, with_rowid}
use Rattle.sqlite.specs.Cast.{cast_row}
use Rattle.sqlite_rules.specs.Calls.{ids_of}
use Rattle.sqlite.specs.Rowids.TheVariants.{Given}
use Rattle.sqlite_schema.specs.Rules.{Refers}
use Rattle.sqlite_resolve.specs.declared.compiled.Compiled.{Compiled}
use Rattle.sqlite.specs.Order.{Row}
use Rattle.sqlite.specs.declared.error.Error.{Error}
use Rattle.sqlite.specs.declared.error.Error.TheVariants as error
use Rattle.sqlite.specs.declared.error.ErrorCode.TheVariants as code
use Rattle.sqlite.specs.Effect.{Database, edit_error, alter_error}
use Rattle.sqlite.specs.Command.{Command}
use Rattle.sqlite.specs.Command.TheVariants.{Insert, InsertOr, Update, Delete, CreateTable}
use Rattle.sqlite.specs.Compile.{table_defined_by}
use Rattle.sqlite.specs.Change.{created}
use Rattle.sqlite_catalog.specs.Calls.{RefusesTable}
use Rattle.sqlite_catalog.specs.declared.error.Refusal as alter
use Rattle.sqlite_catalog.specs.declared.error.Refusal.TheVariants as refusal
use Rattle.sqlite_resolve.specs.declared.error.CompileError.{CompileError}
use Rattle.sqlite.specs.Source.{Source}
use Rattle.sqlite.specs.Source.TheVariants as source
use Rattle.sqlite_schema.specs.declared.command.Conflict.TheVariants.{Abort}
use Rattle.sqlite_schema.specs.declared.command.Upsert.{Upsert}
use Rattle.sqlite_schema.specs.declared.program.Program.{Program}
use Rattle.sqlite_schema.specs.declared.schema.Keys.{Keys}
use Rattle.sqlite_schema.specs.declared.schema.Among.{Among}
use Rattle.sqlite.specs.Schema.{Schema}
use Rattle.sqlite.specs.Table.{Table}
use Rattle.sqlite.specs.Tree.{Trees, rowid}
use Rattle.sqlite.specs.Edit.{Edit}
use Rattle.sqlite_rules.specs.declared.error.Refusal.{Refusal}
use Rattle.sqlite_rules.specs.declared.error.Refusal.TheVariants.{Violates, Mismatch, NoRowid, BadReference, TooDeep}
use Rattle.sqlite.specs.declared.run.Mode.{Mode}
use Rattle.sqlite.specs.Rows.{Part, Gives, Refuses, Then, Queried, Sourced, Edited, Task, Written, Counter, CounterIn, Counts, CountsIn, Deletes, Inserts, InsertsOr, Updates, Puts as PutsRow, Clears, Meets, Resolves, Upserts, Judged, Tries, TriesEach, counter_in, counting, rowids_for, count_of, higher, joined, last_id, nothing, shown, stamped}
use Rattle.sqlite.specs.Does.{Tested, Does, AtPlace, Concludes, OnRows, Tally, MakesTable, MakesSequence, lacks_sequence, no_rows}
use Rattle.sqlite.specs.Listing.{understood}
use Rattle.sqlite.specs.State.{State, IsNotRun, IsMisplaced, RunsCommand, ExecutesIn, ExecutesInside, shows_rows, mode_of, text_of, Fails, IsUnchanged}
use Rattle.sqlite.proofs.Callers.{IsPlain, command_of, statement_of}
use Rattle.office_rows.proofs.Plain.{Means}
use Rattle.office_rows.specs.Faults.{IsOfMachine}
use Rattle.office_rows.proofs.Errors.{of_store, no_statement, refused_query}

abbrev AreOfMachine : {A : Type 0} → Part A → Type 0
AreOfMachine P = (e : Error) → P (Err (Some e)) → IsOfMachine e

then_of_machine : {A B : Type 0} (First : Part A) (Next : A → Part B) → AreOfMachine First → ((a : A) → AreOfMachine (Next a)) → AreOfMachine (Then First Next)
then_of_machine First Next first next e (inl stopped) = first e (subst (λ s. First (Err s)) (let k : stopped.0 ≡ Some e = cc in k) stopped.1)
then_of_machine First Next first next e (inr went) = next went.0 e went.2

gives_of_machine : {A : Type 0} (a : A) → AreOfMachine (Gives a)
gives_of_machine a e h = absurd cc

refuses_of_machine : {A : Type 0} (why : Error) → IsOfMachine why → AreOfMachine {A = A} (Refuses why)
refuses_of_machine why other e h = let k : e ≡ why = cc in rw k other

queried_of_machine : (limit : Option ℕ) (db : Database) (q : Program) (params : Row) → AreOfMachine (Queried limit db q params)
queried_of_machine limit db q params e h = refused_query limit db q params e h

sourced_of_machine : (limit : Option ℕ) (db : Database) (params : Row) (from : Source) → AreOfMachine (Sourced limit db params from)
sourced_of_machine limit db params (source.Values terms width) e (inl h) = rw h.0 (λ h. cc, λ h. cc)
sourced_of_machine limit db params (source.Values terms width) e (inr h) = rw h.0 (λ h. cc, λ h. cc)
sourced_of_machine limit db params (source.Query q) e h = refused_query limit db q params e h

edit_of_machine : (why : Refusal) → IsOfMachine (edit_error why)
edit_of_machine (Violates rule) = (λ h. cc, λ h. cc)
edit_of_machine Mismatch = (λ h. cc, λ h. cc)
edit_of_machine NoRowid = (λ h. cc, λ h. cc)
edit_of_machine BadReference = (λ h. cc, λ h. cc)
edit_of_machine TooDeep = (λ h. cc, λ h. cc)

edited_of_machine : (schema : Schema) (keys : Keys) (db : Trees) (edit : Edit) → AreOfMachine (Edited schema keys db edit)
edited_of_machine schema keys db edit e (None, h, is) = absurd cc
edited_of_machine schema keys db edit e (Some why, h, is) = let k : e ≡ edit_error why = cc in rw k (edit_of_machine why)

tested_of_machine : (mode : Mode) (Holds : Among → Type 0) → AreOfMachine (Tested mode Holds)
tested_of_machine mode Holds e h = let k : e ≡ error.SqliteFailure (Rattle.sqlite.specs.declared.error.ErrorCode.TheVariants.ConstraintViolation Rattle.sqlite_schema.specs.declared.schema.Constraint.TheVariants.ForeignKey) = (let z = h.1 in cc) in rw k (λ h. cc, λ h. cc)

misuse : IsOfMachine error.InvalidQuery
misuse = (λ h. cc, λ h. cc)

counter_by : (task : Task) (db : Trees) (e : Error) (b : Bool) (o : Option Table) → MatchBool b (CounterIn task db o (Err (Some e))) (Gives {A = Option Row} None (Err (Some e))) → IsOfMachine e
counter_by task db e true None h = refuses_of_machine {A = Option Row} _ misuse e h
counter_by task db e true (Some t) h = gives_of_machine (counter_in db task.table t) e h
counter_by task db e false o h = gives_of_machine {A = Option Row} None e h

counts_by : (task : Task) (db : Trees) (counter : Option Row) (top : ℤ) (e : Error) (b : Bool) (o : Option Table) → MatchBool b (CountsIn task db counter top o (Err (Some e))) (Gives {A = Trees} db (Err (Some e))) → IsOfMachine e
counts_by task db counter top e true None h = refuses_of_machine {A = Trees} _ misuse e h
counts_by task db counter top e true (Some t) h = edited_of_machine task.schema task.keys db (counting db task.table t top counter) e h
counts_by task db counter top e false o h = gives_of_machine {A = Trees} db e h

deletes_of_machine : (task : Task) (q : Program) (db : Trees) → AreOfMachine (Deletes task q db)
deletes_of_machine task q db =
    then_of_machine (Queried task.limit (record { schema = task.schema; trees = db }) q task.params)
    (λ rows. Then (Edited task.schema task.keys db (edit_of db task.table (ids_of rows) Given 0 [])) (λ next. Gives (record { trees = next; rows = taken_by db (edit_of db task.table (ids_of rows) Given 0 []); last = None })))
    (queried_of_machine task.limit (record { schema = task.schema; trees = db }) q task.params)
    (λ rows. then_of_machine (Edited task.schema task.keys db (edit_of db task.table (ids_of rows) Given 0 []))
    (λ next. Gives {A = Written} (record { trees = next; rows = taken_by db (edit_of db task.table (ids_of rows) Given 0 []); last = None }))
    (edited_of_machine task.schema task.keys db (edit_of db task.table (ids_of rows) Given 0 [])) (λ next. gives_of_machine {A = Written} (record { trees = next; rows = taken_by db (edit_of db task.table (ids_of rows) Given 0 []); last = None })))

updates_of_machine : (task : Task) (q : Program) (given : Row) (db : Trees) → AreOfMachine (Updates task q given db)
updates_of_machine task q given db =
    then_of_machine (Queried task.limit (record { schema = task.schema; trees = db }) q given)
    (λ rows. Then (Edited task.schema task.keys db (edit_of db task.table (ids_of rows) Given 1 rows)) (λ next. Gives (record { trees = next; rows = (edit_of db task.table (ids_of rows) Given 1 rows).news; last = None })))
    (queried_of_machine task.limit (record { schema = task.schema; trees = db }) q given)
    (λ rows. then_of_machine (Edited task.schema task.keys db (edit_of db task.table (ids_of rows) Given 1 rows))
    (λ next. Gives {A = Written} (record { trees = next; rows = (edit_of db task.table (ids_of rows) Given 1 rows).news; last = None }))
    (edited_of_machine task.schema task.keys db (edit_of db task.table (ids_of rows) Given 1 rows)) (λ next. gives_of_machine {A = Written} (record { trees = next; rows = (edit_of db task.table (ids_of rows) Given 1 rows).news; last = None })))

abbrev edit_in : Task → Trees → List Row → Option Row → Edit
edit_in task db rows counter = edit_of db task.table [] (rowids_for task.table (count_of counter)) 0 rows

abbrev Puts : Task → Trees → List Row → Option Row → Trees → Part Written
Puts task db rows counter mid =
    Then (Counts task mid counter (fold higher (count_of counter) (edit_in task db rows counter).news)) (λ next. Gives (record { trees = next; rows = (edit_in task db rows counter).news; last = last_id (edit_in task db rows counter).news }))

inserts_of_machine : (task : Task) (from : Source) (db : Trees) → AreOfMachine (Inserts task from db)
inserts_of_machine task from db =
    then_of_machine (Sourced task.limit (record { schema = task.schema; trees = db }) (stamped task.table task.params) from)
    (λ rows. Then (Counter task db) (λ counter. Then (Edited task.schema task.keys db (edit_in task db rows counter)) (Puts task db rows counter)))
    (sourced_of_machine task.limit (record { schema = task.schema; trees = db }) (stamped task.table task.params) from)
    (λ rows. then_of_machine (Counter task db) (λ counter. Then (Edited task.schema task.keys db (edit_in task db rows counter)) (Puts task db rows counter))
    (λ e h. counter_by task db e _ _ h)
    (λ counter. then_of_machine (Edited task.schema task.keys db (edit_in task db rows counter)) (Puts task db rows counter) (edited_of_machine task.schema task.keys db (edit_in task db rows counter))
    (λ mid. then_of_machine (Counts task mid counter (fold higher (count_of counter) (edit_in task db rows counter).news)) (λ next. Gives {A = Written} (record { trees = next; rows = (edit_in task db rows counter).news; last = last_id (edit_in task db rows counter).news }))
    (λ e h. counts_by task mid counter _ e _ _ h)
    (λ next. gives_of_machine {A = Written} (record { trees = next; rows = (edit_in task db rows counter).news; last = last_id (edit_in task db rows counter).news })))))

-- ---- an upsert

puts_of_machine : (task : Task) (new : Row) (db : Trees) → AreOfMachine (PutsRow task new db)
puts_of_machine task new db =
    then_of_machine (Edited task.schema task.keys db (edit_of db task.table [] Given 0 (new ∷ [])))
    (λ next. Gives {A = Written} (record { trees = next; rows = (edit_of db task.table [] Given 0 (new ∷ [])).news; last = last_id (edit_of db task.table [] Given 0 (new ∷ [])).news }))
    (edited_of_machine task.schema task.keys db (edit_of db task.table [] Given 0 (new ∷ [])))
    (λ next. gives_of_machine {A = Written} (record { trees = next; rows = (edit_of db task.table [] Given 0 (new ∷ [])).news; last = last_id (edit_of db task.table [] Given 0 (new ∷ [])).news }))

clears_of_machine : (task : Task) (new : Row) (db : Trees) (found : List Row) → AreOfMachine (Clears task Abort new db found)
clears_of_machine task new db [] = puts_of_machine task new db
clears_of_machine task new db (r ∷ rs) = puts_of_machine task new db

resolves_of_machine : (task : Task) (new : Row) (db : Trees) (there : Row) (q : Option Program) → AreOfMachine (Resolves task new db there q)
resolves_of_machine task new db there None = gives_of_machine (nothing db)
resolves_of_machine task new db there (Some q) = updates_of_machine task q (task.params ++ rowid there ∷ shown task.table new) db

meets_of_machine : (task : Task) (new : Row) (db : Trees) (clause : Upsert) (Otherwise : Part Written) (found : List Row) (e : Error) → (Otherwise (Err (Some e)) → IsOfMachine e)
    → Meets task Otherwise new db clause found (Err (Some e)) → IsOfMachine e
meets_of_machine task new db clause Otherwise [] e otherwise h = otherwise h
meets_of_machine task new db clause Otherwise (there ∷ rest) e otherwise h = resolves_of_machine task new db there clause.update e h

upserts_of_machine : (task : Task) (new : Row) (db : Trees) (clauses : List Upsert) → AreOfMachine (Upserts task Abort new db clauses)
upserts_of_machine task new db [] e (found, are, h) = clears_of_machine task new db found e h
upserts_of_machine task new db (clause ∷ more) e (found, are, h) = meets_of_machine task new db clause (Upserts task Abort new db more) found e (upserts_of_machine task new db more e) h

judged_of_machine : (task : Task) (clauses : List Upsert) (new : Row) (db : Trees) (verdict : Option Refusal) → AreOfMachine (Judged task Abort clauses new db verdict)
judged_of_machine task clauses new db None = upserts_of_machine task new db clauses
judged_of_machine task clauses new db (Some why) = refuses_of_machine {A = Written} (edit_error why) (edit_of_machine why)

tries_of_machine : (task : Task) (clauses : List Upsert) (new : Row) (db : Trees) → AreOfMachine (Tries task Abort clauses new db)
tries_of_machine task clauses new db e (inl h) = let k : e ≡ error.SqliteFailure code.NoRowid = (let z = h.1 in cc) in rw k (λ h. cc, λ h. cc)
tries_of_machine task clauses new db e (inr (verdict, judged, h)) = judged_of_machine task clauses new db verdict e h

-- the row that is offered of a source
abbrev offered : Task → ℤ → Written → Row → Row
offered task top done source = with_rowid (rowids_for task.table top) (done.trees task.table.tree) (cast_row task.table source)

tries_each_of_machine : (task : Task) (clauses : List Upsert) (sources : List Row) (top : ℤ) (done : Written) → AreOfMachine (TriesEach task Abort clauses sources top done)
tries_each_of_machine task clauses [] top done e h = gives_of_machine (done, top) e h
tries_each_of_machine task clauses (source ∷ more) top done e (inl stopped) =
    tries_of_machine task clauses (offered task top done source) done.trees e
    (subst (λ s. Tries task Abort clauses (offered task top done source) done.trees (Err s)) (let k : stopped.0 ≡ Some e = (let z = stopped.2 in cc) in k) stopped.1)
tries_each_of_machine task clauses (source ∷ more) top done e (inr went) = tries_each_of_machine task clauses more (higher top (offered task top done source)) (joined done went.0) e went.2

inserts_or_of_machine : (task : Task) (clauses : List Upsert) (from : Source) (db : Trees) → AreOfMachine (InsertsOr task Abort clauses from db)
inserts_or_of_machine task clauses from db e (inl stopped) =
    sourced_of_machine task.limit (record { schema = task.schema; trees = db }) (stamped task.table task.params) from e (subst (λ s. Sourced task.limit (record { schema = task.schema; trees = db }) (stamped task.table task.params) from (Err s)) (let k : stopped.0 ≡ Some e = (let z = stopped.2 in cc) in k) stopped.1)
inserts_or_of_machine task clauses from db e (inr (rows, are, inl stopped)) =
    counter_by task db e _ _ (subst (λ s. Counter task db (Err s)) (let k : stopped.0 ≡ Some e = (let z = stopped.2 in cc) in k) stopped.1)
inserts_or_of_machine task clauses from db e (inr (rows, are, inr (counter, is, inl stopped))) =
    tries_each_of_machine task clauses rows (count_of counter) (nothing db) e (subst (λ s. TriesEach task Abort clauses rows (count_of counter) (nothing db) (Err s)) (let k : stopped.0 ≡ Some e = (let z = stopped.2 in cc) in k) stopped.1)
inserts_or_of_machine task clauses from db e (inr (rows, are, inr (counter, is, inr (done, tried, inl stopped)))) =
    counts_by task done.0.trees counter done.1 e _ _ (subst (λ s. Counts task done.0.trees counter done.1 (Err s)) (let k : stopped.0 ≡ Some e = (let z = stopped.2 in cc) in k) stopped.1)
inserts_or_of_machine task clauses from db e (inr (rows, are, inr (counter, is, inr (done, tried, inr (next, counted, h))))) = absurd (let z = h in cc)

concludes_of_machine : (task : Task) (mode : Mode) (w : Written) → AreOfMachine (Concludes task mode None w)
concludes_of_machine task mode w =
    then_of_machine (Tested mode (λ among. Refers among task.schema w.trees)) (λ in_doubt. Then (Gives {A = List Row} []) (λ rows. Gives (concluded task w rows in_doubt)))
    (tested_of_machine mode (λ among. Refers among task.schema w.trees))
    (λ in_doubt. then_of_machine (Gives {A = List Row} []) (λ rows. Gives {A = Tally × Database} (concluded task w rows in_doubt)) (gives_of_machine []) (λ rows. gives_of_machine (concluded task w rows in_doubt)))
  where
    concluded : Task → Written → List Row → Bool → Tally × Database
    concluded task w rows in_doubt = (record { rows = Some (length w.rows); last = w.last; shown = rows; in_doubt = in_doubt }, record { schema = task.schema; trees = w.trees })

placed_of_machine : {X A : Type 0} (P : X → Part A) (o : Option X) → ((x : X) → AreOfMachine (P x)) → AreOfMachine (AtPlace P o)
placed_of_machine P None each e h = refuses_of_machine _ misuse e h
placed_of_machine P (Some x) each e h = each x e h

abbrev task_of : Option ℕ → Mode → Row → Database → Table → Task
task_of limit mode params db t = record { limit = limit; keys = mode.keys; schema = db.schema; table = t; params = params }

pub does_delete : (limit : Option ℕ) (mode : Mode) (params : Row) (db : Database) (text : List ℕ) (at : ℕ) (q : Program) → AreOfMachine (Does limit mode params db text None (Delete at q))
does_delete limit mode params db text at q =
    placed_of_machine (λ t. OnRows (task_of limit mode params db t) mode None (Delete at q) db.trees) (slice_get db.schema.tables at)
    (λ t. then_of_machine (Deletes (task_of limit mode params db t) q db.trees) (Concludes (task_of limit mode params db t) mode None) (deletes_of_machine (task_of limit mode params db t) q db.trees) (concludes_of_machine (task_of limit mode params db t) mode))

pub does_update : (limit : Option ℕ) (mode : Mode) (params : Row) (db : Database) (text : List ℕ) (at : ℕ) (q : Program) → AreOfMachine (Does limit mode params db text None (Update at q))
does_update limit mode params db text at q =
    placed_of_machine (λ t. OnRows (task_of limit mode params db t) mode None (Update at q) db.trees) (slice_get db.schema.tables at)
    (λ t. then_of_machine (Updates (task_of limit mode params db t) q params db.trees) (Concludes (task_of limit mode params db t) mode None) (updates_of_machine (task_of limit mode params db t) q params db.trees) (concludes_of_machine (task_of limit mode params db t) mode))

pub does_insert : (limit : Option ℕ) (mode : Mode) (params : Row) (db : Database) (text : List ℕ) (at : ℕ) (from : Source) → AreOfMachine (Does limit mode params db text None (Insert at from))
does_insert limit mode params db text at from =
    placed_of_machine (λ t. OnRows (task_of limit mode params db t) mode None (Insert at from) db.trees) (slice_get db.schema.tables at)
    (λ t. then_of_machine (Inserts (task_of limit mode params db t) from db.trees) (Concludes (task_of limit mode params db t) mode None) (inserts_of_machine (task_of limit mode params db t) from db.trees) (concludes_of_machine (task_of limit mode params db t) mode))

pub does_upsert : (limit : Option ℕ) (mode : Mode) (params : Row) (db : Database) (text : List ℕ) (at : ℕ) (from : Source) (clauses : List Upsert)
    → AreOfMachine (Does limit mode params db text None (InsertOr at Abort from clauses))
does_upsert limit mode params db text at from clauses =
    placed_of_machine (λ t. OnRows (task_of limit mode params db t) mode None (InsertOr at Abort from clauses) db.trees) (slice_get db.schema.tables at)
    (λ t. then_of_machine (InsertsOr (task_of limit mode params db t) Abort clauses from db.trees) (Concludes (task_of limit mode params db t) mode None) (inserts_or_of_machine (task_of limit mode params db t) clauses from db.trees) (concludes_of_machine (task_of limit mode params db t) mode))

misplaced_of_machine : (s : State) (command : Command) (e : Error) → IsMisplaced s command e → IsOfMachine e
misplaced_of_machine s command e (inl h) = rw h.0 (λ h. cc, λ h. cc)
misplaced_of_machine s command e (inr h) = rw h.0 (λ h. cc, λ h. cc)

fails_of_machine : (old new : State) (big : Type 0) (e : Error) → Fails old new big e → IsOfMachine e
fails_of_machine old new big e h = rw h.1 (of_store h.0)

-- the command, whose text this is, is never refused for the form of the tables of the schema
abbrev pub IsSure : Schema → List ℕ → Command → Type 0
IsSure schema sql command =
    (limit : Option ℕ) (mode : Mode) (params : Row) (db : Database) → db.schema ≡ schema → AreOfMachine (Does limit mode params db (statement_of sql (understood schema sql)) None command)

module _ (schema : Schema) (sql : List ℕ) (params : Row) (command : Command) (sure : IsSure schema sql command) where
  command_of_machine : (old new : State) (c : Compiled) (params : Row) (e : Error) → old.now.schema ≡ schema → text_of sql c ≡ statement_of sql (understood schema sql) → c.returning ≡ None → c.command ≡ command
      → RunsCommand old new sql c params (Err e) → IsOfMachine e
  command_of_machine old new c params e has text none is (inl (inl h, same)) = misplaced_of_machine old _ e h
  command_of_machine old new c params e has text none is (inl (inr h, same)) = sure old.step_limit (mode_of old) params old.now has e (rw (none, is, text) at h.1)
  command_of_machine old new c params e has text none is (inr h) = fails_of_machine old new _ e h

  pub write_failed : (old new : State) (e : Error) → old.now.schema ≡ schema → Means schema sql command → ExecutesInside 0 sql params old new (Err e) → IsOfMachine e
  unfolding ExecutesIn IsNotRun
  write_failed old new e has means (inr h) = rw h.1 (λ h. cc, λ h. cc)
  write_failed old new e has means (inl (inl (inl h), kept)) = no_statement old sql params e (rw has means.plain) h.0
  write_failed old new e has means (inl (inl (inr h), kept)) = fails_of_machine old new _ e h
  write_failed old new e has means (inl (inr (c, it, h), kept)) =
      by (shows_rows false c) (timed params c.formats it.now) h
    where
      known : understood schema sql ≡ Ok c
      known = ap (λ s. understood s sql) (sym has) ∙ it.is

      by : (b : Bool) (full : Row) → MatchBool b ((◌≡◌ {A = Result ℕ Error} (Err e) (Err error.ExecuteReturnedResults)) × IsUnchanged old new) (RunsCommand old new sql c full (Err e)) → IsOfMachine e
      by true full h = let k : e ≡ error.ExecuteReturnedResults = (let z = h.0 in cc) in rw k (λ h. cc, λ h. cc)
      by false full h = command_of_machine old new c full e has (ap (statement_of sql) (sym known)) (subst IsPlain known means.plain).0 (ap command_of (sym known) ∙ means.is) h

pub delete_failed : (sql : List ℕ) (params : Row) (at : ℕ) (q : Program) (schema : Schema) (old new : State) (e : Error) → old.now.schema ≡ schema → Means schema sql (Delete at q) → ExecutesInside 0 sql params old new (Err e) → IsOfMachine e
delete_failed sql params at q schema = write_failed schema sql params (Delete at q) (λ limit mode params db has. does_delete limit mode params db (statement_of sql (understood schema sql)) at q)

pub update_failed : (sql : List ℕ) (params : Row) (at : ℕ) (q : Program) (schema : Schema) (old new : State) (e : Error) → old.now.schema ≡ schema → Means schema sql (Update at q) → ExecutesInside 0 sql params old new (Err e) → IsOfMachine e
update_failed sql params at q schema = write_failed schema sql params (Update at q) (λ limit mode params db has. does_update limit mode params db (statement_of sql (understood schema sql)) at q)

pub insert_failed : (sql : List ℕ) (params : Row) (at : ℕ) (from : Source) (schema : Schema) (old new : State) (e : Error) → old.now.schema ≡ schema → Means schema sql (Insert at from) → ExecutesInside 0 sql params old new (Err e) → IsOfMachine e
insert_failed sql params at from schema = write_failed schema sql params (Insert at from) (λ limit mode params db has. does_insert limit mode params db (statement_of sql (understood schema sql)) at from)

pub upsert_failed : (sql : List ℕ) (params : Row) (at : ℕ) (from : Source) (clauses : List Upsert) (schema : Schema) (old new : State) (e : Error) → old.now.schema ≡ schema → Means schema sql (InsertOr at Abort from clauses)
    → ExecutesInside 0 sql params old new (Err e) → IsOfMachine e
upsert_failed sql params at from clauses schema = write_failed schema sql params (InsertOr at Abort from clauses) (λ limit mode params db has. does_upsert limit mode params db (statement_of sql (understood schema sql)) at from clauses)

-- ---- CREATE TABLE

made_of_machine : (text : List ℕ) (db : Database) (table : Table) → table_defined_by text ≡ Ok table → AreOfMachine (MakesTable text db)
made_of_machine text db table defined e (inl no_text) = rw no_text.1 (λ h. cc, λ h. cc)
made_of_machine text db table defined e (inr (why, refused, is)) = rw is (refused_of_machine why refused)
  where
    refused_of_machine : (why : alter.Refusal) → RefusesTable db.schema text why → IsOfMachine (alter_error why)
    refused_of_machine (refusal.Invalid fault) invalid = absurd (let z = sym defined ∙ invalid in cc)
    refused_of_machine refusal.NameTaken h = (λ h. cc, λ h. cc)
    refused_of_machine refusal.BadName h = (λ h. cc, λ h. cc)
    refused_of_machine refusal.BadKey h = (λ h. cc, λ h. cc)
    refused_of_machine refusal.BadText h = (λ h. cc, λ h. cc)
    refused_of_machine refusal.TooBig h = (λ h. cc, λ h. cc)
    refused_of_machine (refusal.Violates rule) h = absurd h

-- the text defines a table that counts no rowids
pub does_create : (limit : Option ℕ) (mode : Mode) (params : Row) (db : Database) (text : List ℕ) (table : Table) → table_defined_by text ≡ Ok table → lacks_sequence (created db.schema table) ≡ false
    → AreOfMachine (Does limit mode params db text None CreateTable)
does_create limit mode params db text table defined lacks =
    then_of_machine (Then (MakesTable text db) MakesSequence) (λ after. Gives (no_rows mode.in_doubt, after))
    (then_first (MakesTable text db) MakesSequence (made_of_machine text db table defined) sequence)
    (λ after. gives_of_machine (no_rows mode.in_doubt, after))
  where
    then_first : {A B : Type 0} (First : Part A) (Next : A → Part B) → AreOfMachine First → ((a : A) → First (Ok a) → AreOfMachine (Next a)) → AreOfMachine (Then First Next)
    then_first First Next first next e (inl stopped) = first e (subst (λ s. First (Err s)) (let k : stopped.0 ≡ Some e = cc in k) stopped.1)
    then_first First Next first next e (inr went) = next went.0 went.1 e went.2

    sequence : (after : Database) → MakesTable text db (Ok after) → AreOfMachine (MakesSequence after)
    sequence after made e h =
        let both : ◌≡◌ {A = Result Table CompileError} (Ok made.table) (Ok table) = sym made.defined ∙ defined in
        let none : lacks_sequence after.schema ≡ false = ap lacks_sequence (made.is ∙ ap (created db.schema) (let k : made.table ≡ table = cc in k)) ∙ lacks in
        gives_of_machine after e (rw none at h)

pub create_failed : (sql : List ℕ) (params : Row) (table : Table) (schema : Schema) (old new : State) (e : Error) → old.now.schema ≡ schema → Means schema sql CreateTable
    → table_defined_by (statement_of sql (understood schema sql)) ≡ Ok table → lacks_sequence (created schema table) ≡ false → ExecutesInside 0 sql params old new (Err e) → IsOfMachine e
create_failed sql params table schema old new e has means defined lacks =
    write_failed schema sql params CreateTable (λ limit mode params db has. does_create limit mode params db (statement_of sql (understood schema sql)) table defined (ap (λ s. lacks_sequence (created s table)) has ∙ lacks)) old new e has means
