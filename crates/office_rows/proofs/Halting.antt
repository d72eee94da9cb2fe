-- What stops the parts of a statement of a known meaning, where it is no failure of the store.
use Rattle.std.proofs.Common.{inl, inr, ◌⊎◌, ◌≡◌, ℕ, zero, suc, List, [], ◌∷◌, length, Bool, true, false, not, cond, Option, None, Some, Ok, Err, Result, IsTrue, refl, sym, ap, subst, ◌∙◌, append-nil, length-append, true≢false, eqb-true, arith, ltb, ltb-false}
use Rattle.std.specs.Prelude.{MatchBool, option_map, ◌&&◌, ◌||◌, ◌==◌, is_some}
use Rattle.std.specs.List.{AllByRecursion, list_all}
use Rattle.std.specs.Ordering.{is_eq}
use Rattle.std.proofs.lemmas.Bool.{and_parts, and_from, not-true, not_from_false, both_ways, false_from_ne_true}
use Rattle.sqlite.specs.Clock.{timed}
use Rattle.sqlite.specs.Command.{Command}
use Rattle.sqlite.specs.Command.TheVariants.{Select, Insert, InsertOr, Update, Delete}
use Rattle.sqlite.specs.Does.{Tested, Does, Concludes, Tally}
use Rattle.sqlite.specs.Edit.{Edit}
use Rattle.sqlite.specs.Effect.{Database, edit_error, is_query}
use Rattle.sqlite.specs.Listing.{understood}
use Rattle.sqlite.specs.Order.{Row}
use Rattle.sqlite.specs.Rows.{Part, Gives, Then, Queried, Edited, Task, Written}
use Rattle.sqlite.specs.Schema.{Schema}
use Rattle.sqlite.specs.State.{State, IsNotRun, IsNoStatement, IsMisplaced, IsStatement, RunsCommand, ExecutesIn, ExecutesInside, EndsScope, Escapes, shows_rows, is_pragma, mode_of, Fails, HasCause, IsUnchanged, store_error}
use Rattle.sqlite.specs.Table.{Table}
use Rattle.sqlite.specs.Tree.{Trees, rowid}
use Rattle.sqlite.specs.declared.error.Error.{Error}
use Rattle.sqlite.specs.declared.error.Error.TheVariants as error
use Rattle.sqlite.specs.declared.error.ErrorCode.TheVariants.{TooBig}
use Rattle.sqlite.specs.declared.run.Mode.{Mode}
use Rattle.sqlite.proofs.Callers.{IsPlain, command_of, statement_of}
use Rattle.sqlite_resolve.specs.declared.compiled.Compiled.{Compiled}
use Rattle.sqlite_resolve.specs.declared.error.CompileError.{CompileError}
use Rattle.sqlite_rules.specs.Action.{works, Leads}
use Rattle.sqlite_rules.specs.Edit.{IsRefused, IsOversized, is_taken, are_fresh, taken_by}
use Rattle.sqlite_rules.specs.Lists.{Has}
use Rattle.sqlite_rules.specs.declared.error.Refusal.{Refusal}
use Rattle.sqlite_rules.proofs.KeyLemmas.{agree_back}
use Rattle.sqlite_rules.proofs.ListLemmas.{all_has, test_has, test_from, some_has, some_from}
use Rattle.sqlite_rules.proofs.RuleLemmas.{same_table, keeps_at, keeps_from, refers_from}
use Rattle.sqlite_rules.proofs.TableLemmas.{put_has}
use Rattle.sqlite_schema.specs.Rules.{agree, differ, clashes, guards, Keeps, Refers}
use Rattle.sqlite_schema.specs.declared.program.Program.{Program}
use Rattle.sqlite_schema.specs.declared.schema.Among.{Among}
use Rattle.sqlite_schema.specs.declared.schema.Constraint.TheVariants.{Unique}
use Rattle.sqlite_schema.specs.declared.schema.Index.{Index}
use Rattle.sqlite_schema.specs.declared.schema.Keys.{Keys}
use Rattle.sqlite_schema.specs.declared.schema.Reference.{Reference}
use Rattle.sqlite_trees.specs.Tree.{IsAscending, put_row, with_tree}
use Rattle.sqlite_trees.specs.declared.error.StoreError.{StoreError}
use Rattle.sqlite_trees.specs.declared.error.StoreError.TheVariants.{OutOfMemory, Io, Corrupt, Full, Broken, Unstorable}
use Rattle.sqlite_value.specs.Order.{value_cmp}
use Rattle.office_rows.proofs.Plain.{Means}
use Rattle.office_rows.proofs.Stored.{not_true}
use Rattle.office_rows.proofs.Sure.{IsSureQuery, never_both, sure_read}
use Rattle.office_rows.proofs.Writing.{IsTableOf}

-- ---- from a statement to its command

abbrev pub on_rows : Command → Bool
on_rows (Insert at from) = true
on_rows (InsertOr at how from clauses) = true
on_rows (Update at q) = true
on_rows (Delete at q) = true
on_rows _ = false

abbrev IsFit : List ℕ → Row → Result Compiled CompileError → Type 0
IsFit sql params (Ok c) = (ltb c.tail (length sql) ≡ false) × (length params ≡ length c.names)
IsFit sql params (Err e) = ⊥

-- the text is one statement with as many parameters. `refl` finds both, under `unfolding understood everything`
pub record IsOne (schema : Schema) (sql : List ℕ) (params : Row) : Type 0 where
  pub text : IsFit sql params (understood schema sql)

module _ (schema : Schema) (sql : List ℕ) (params : Row) (command : Command) (on : on_rows command ≡ true) (silent : (is_query command || (is_pragma command || false)) ≡ false)
    (means : Means schema sql command) (one : IsOne schema sql params) (old new : State) (e : Error) (has : old.now.schema ≡ schema) (begun : IsTrue old.in_transaction) where
  -- the command stops so
  abbrev pub Halts : Option Error → Type 0
  Halts stop = Does old.step_limit (mode_of old) params old.now (statement_of sql (understood schema sql)) None command (Err stop)

  known : (c : Compiled) → understood old.now.schema sql ≡ Ok c → understood schema sql ≡ Ok c
  known c is = ap (λ s. understood s sql) (sym has) ∙ is

  command_is : (c : Compiled) → understood old.now.schema sql ≡ Ok c → c.command ≡ command
  command_is c is = ap command_of (sym (known c is)) ∙ means.is

  not_run : IsNoStatement old sql params e → ⊥
  not_run (inl h) = subst (IsFit sql params) (ap (λ s. understood s sql) (sym has) ∙ h.1) one.text
  not_run (inr (c, is, inl h)) = h.0 (ltb-false c.tail (length sql) (subst (IsFit sql params) (known c is) one.text).0)
  not_run (inr (c, is, inr (inl h))) = h.0 (subst (IsFit sql params) (known c is) one.text).1
  not_run (inr (c, is, inr (inr h))) = h.0 (subst IsPlain (known c is) means.plain).1

  other : (k : Command) → on_rows k ≡ false → command ≡ k → ⊥
  other k off is = true≢false (sym on ∙ ap on_rows is ∙ off)

  misplaced : IsMisplaced old command e → ⊥
  misplaced (inl (is, inl at)) = other _ refl at.0
  misplaced (inl (is, inr (inl at, out))) = other _ refl at
  misplaced (inl (is, inr (inr at, out))) = other _ refl at
  misplaced (inr (is, name, inl at, none)) = other _ refl at
  misplaced (inr (is, name, inr at, none)) = other _ refl at

  escapes : Escapes 0 old command → ⊥
  escapes (inl (inl at)) = other _ refl at
  escapes (inl (inr at)) = other _ refl at
  escapes (inr (name, inl at, held)) = other _ refl at
  escapes (inr (name, inr at, held)) = other _ refl at

  stored : (big : Type 0) → Fails old new big e → IsUnchanged old new ⊎ (e ≡ error.SqliteFailure TooBig) → (e ≡ error.SqliteFailure TooBig) × big
  stored big (cause, is, has_cause, back, tells) (inl same) = never_both old.in_transaction begun (sym same.0.mode ∙ back.autocommit)
  stored big (cause, is, has_cause, back, tells) (inr too_big) = (too_big, by cause (sym is ∙ too_big) has_cause)
    where
      by : (cause : StoreError) → store_error cause ≡ error.SqliteFailure TooBig → HasCause old new big cause → big
      by OutOfMemory same h = absurd cc
      by Io same h = absurd cc
      by Corrupt same h = absurd cc
      by Full same h = absurd cc
      by Broken same h = absurd cc
      by Unstorable same h = h

  ran : (c : Compiled) (it : IsStatement old sql params c) → RunsCommand old new sql c (timed params c.formats it.now) (Err e) → IsUnchanged old new ⊎ (e ≡ error.SqliteFailure TooBig)
      → Halts (Some e) ⊎ ((e ≡ error.SqliteFailure TooBig) × Halts None)
  ran c it (inl (inl h, same)) why = absurd (misplaced (subst (λ k. IsMisplaced old k e) (command_is c it.is) h))
  ran c it (inl (inr h, same)) why =
      let plain = subst IsPlain (known c it.is) means.plain in
      inl (rw (plain.0, plain.1, command_is c it.is, ap (statement_of sql) (sym (known c it.is)), append-nil params) at h.1)
  ran c it (inr h) why =
      let plain = subst IsPlain (known c it.is) means.plain in
      let big = stored _ h why in
      inr (big.0, rw (plain.0, plain.1, command_is c it.is, ap (statement_of sql) (sym (known c it.is)), append-nil params) at big.1)

  -- a statement that is refused is one that the command is refused for, or a row that can't be stored
  pub refused_by : ExecutesInside 0 sql params old new (Err e) → IsUnchanged old new ⊎ (e ≡ error.SqliteFailure TooBig) → Halts (Some e) ⊎ ((e ≡ error.SqliteFailure TooBig) × Halts None)
  unfolding ExecutesIn IsNotRun EndsScope
  refused_by (inr h) why = absurd (escapes (subst (Escapes 0 old) (command_is h.0.0 h.0.1.is) h.0.2))
  refused_by (inl (inl (inl h), kept)) why = absurd (not_run h.0)
  refused_by (inl (inl (inr h), kept)) why = absurd (stored ⊥ h why).1
  refused_by (inl (inr (c, it, h), kept)) why =
      let plain = subst IsPlain (known c it.is) means.plain in
      let hides : shows_rows false c ≡ false = (λ i. is_query (command_is c it.is i) || (is_pragma (command_is c it.is i) || is_some (plain.0 i))) ∙ silent in
      by (shows_rows false c) hides h
    where
      by : (b : Bool) → b ≡ false → MatchBool b ((◌≡◌ {A = Result ℕ Error} (Err e) (Err error.ExecuteReturnedResults)) × IsUnchanged old new) (RunsCommand old new sql c (timed params c.formats it.now) (Err e))
          → Halts (Some e) ⊎ ((e ≡ error.SqliteFailure TooBig) × Halts None)
      by true other h = absurd (true≢false other)
      by false other h = ran c it h why

-- ---- the parts of a command

pub halted : {A B : Type 0} (First : Part A) (Next : A → Part B) (stop : Option Error) → Then First Next (Err stop) → First (Err stop) ⊎ ((a : A) × First (Ok a) × Next a (Err stop))
halted First Next stop (inl stopped) = inl (subst (λ s. First (Err s)) (let k : stopped.0 ≡ stop = (let z = stopped.2 in cc) in k) stopped.1)
halted First Next stop (inr went) = inr went

-- a query of one answer, which its schema takes
pub never_asks : (schema : Schema) (db : Database) (q : Program) (params : Row) (stop : Option Error) → db.schema ≡ schema → IsSureQuery schema params (Select q []) → Queried None db q params (Err stop) → ⊥
never_asks schema db q params None has sure h = h
never_asks schema db q params (Some e) has sure h = sure_read schema db params e (Select q []) has sure h

pub no_references : (schema : Schema) → AllByRecursion (λ t. t.references ≡ []) schema.tables → (among : Among) (db : Trees) → Refers among schema db
no_references schema none among db = refers_from among schema db (λ t ref row listed known is there. absurd (subst (λ (l : List Reference). Has l ref) (all_has _ schema.tables t none listed) known))

abbrev concluded_as : Task → Written → List Row → Bool → Tally × Database
concluded_as task w rows in_doubt = (record { rows = Some (length w.rows); last = w.last; shown = rows; in_doubt = in_doubt }, record { schema = task.schema; trees = w.trees })

pub concluded : (task : Task) (mode : Mode) (w : Written) (stop : Option Error) → ((among : Among) → Refers among task.schema w.trees) → Concludes task mode None w (Err stop) → ⊥
concluded task mode w stop refers h =
    elim (halted (Tested mode (λ among. Refers among task.schema w.trees)) (λ in_doubt. Then (Gives {A = List Row} []) (λ rows. Gives (concluded_as task w rows in_doubt))) stop h) [
      | inl tested ↦ tested.0 (refers _)
      | inr went ↦ elim (halted (Gives {A = List Row} []) (λ rows. Gives (concluded_as task w rows went.0)) stop went.2) [
        | inl none ↦ absurd (let z = none in cc)
        | inr given ↦ absurd (let z = given.2 in cc)
      ]
    ]

-- it is refused, or one of its rows can't be stored
abbrev pub IsHalted : Schema → Keys → Trees → Edit → Option Error → Type 0
IsHalted schema keys db edit stop =
    ((why : Refusal) × IsRefused schema keys db edit why × (stop ≡ Some (edit_error why)))
    ⊎ ((row : Row) × Has edit.news row × IsOversized schema edit.table row × (stop ≡ None))

pub edit_halted : (schema : Schema) (keys : Keys) (db : Trees) (edit : Edit) → works schema keys 0 edit.table.tree (taken_by db edit) edit.news ≡ [] → (stop : Option Error) → Edited schema keys db edit (Err stop)
    → IsHalted schema keys db edit stop
edit_halted schema keys db edit none stop (why, inl refused, is) = inl (refused.0, refused.1, is ∙ ap (option_map edit_error) (let k : why ≡ Some refused.0 = (let z = refused.2 in cc) in k))
edit_halted schema keys db edit none stop (why, inr (inl big), is) = inr (big.0, big.1, big.2, is ∙ ap (option_map edit_error) (let k : why ≡ None = (let z = big.3 in cc) in k))
edit_halted schema keys db edit none stop (why, inr (inr went), is) = absurd (settled went.2.0 (rw none at went.2.1))
  where
    settled : (n : ℕ) → Leads schema keys n went.0 [] (Err why) → ⊥
    settled zero h = absurd (let e = h.1 in cc)
    settled (suc n) h = omega (arith, ap length h.2, length-append h.0 (h.1 ∷ []))

-- ---- the rules of keys

-- a table of its schema, which has no foreign keys
pub record IsFree (schema : Schema) (at : ℕ) (table : Table) : Type 0 where
  pub is_table : IsTableOf schema at table
  pub listed : Has schema.tables table
  pub apart : IsAscending (λ a b. a.tree ≡ b.tree → ⊥) schema.tables
  pub unreferred : AllByRecursion (λ t. t.references ≡ []) schema.tables

-- of rows that are news or were left, no two have one key where a new one has the key of no other
module _ (schema : Schema) (at : ℕ) (table : Table) (free : IsFree schema at table) (db : Trees) (keeps : Keeps Unique schema db)
    (rows news left : List Row) (from : (r : Row) → Has rows r → Has news r ⊎ Has left r) (was : (r : Row) → Has left r → Has (db table.tree) r)
    (alone : (i : Index) → Has schema.indexes i → guards i table ≡ true → (n r : Row) → Has news n → Has left r → agree i.order i.columns r i.columns n ≡ true → ⊥)
    (among : (i : Index) → Has schema.indexes i → guards i table ≡ true → (n m : Row) → Has news n → Has news m → agree i.order i.columns m i.columns n ≡ true → differ (rowid m) (rowid n) ≡ false) where
  clash : (i : Index) → Has schema.indexes i → guards i table ≡ true → (row : Row) → Has rows row → clashes i.order i.columns rows row ≡ true → ⊥
  clash i known on row there h =
      let other = some_has _ _ h in
      let parts = and_parts _ _ other.2 in
      elim (from row there) [
        | inl new ↦ elim (from other.0 other.1) [
          | inl also ↦ true≢false (sym parts.1 ∙ among i known on row other.0 new also parts.0)
          | inr old ↦ alone i known on row other.0 new old parts.0
        ]
        | inr kept ↦ elim (from other.0 other.1) [
          | inl new ↦ alone i known on other.0 row new kept (agree_back _ _ _ _ _ parts.0)
          | inr old ↦ both_ways _ (not-true _ (test_has _ schema.indexes i (keeps_at Unique schema db table row keeps free.listed (was row kept)) known)) (and_from _ _ on (some_from _ _ other.0 (was other.0 old) other.2))
        ]
      ]

  pub unique_with : Keeps Unique schema (with_tree db table.tree rows)
  unique_with = keeps_from Unique schema (with_tree db table.tree rows) (λ t row known there. go t row known (t.tree == table.tree) refl there)
    where
      go : (t : Table) (row : Row) → Has schema.tables t → (b : Bool) → (t.tree == table.tree) ≡ b → Has (cond b rows (db t.tree)) row
          → list_all (λ i. not (guards i t && clashes i.order i.columns (cond b rows (db t.tree)) row)) schema.indexes ≡ true
      go t row known true same h =
          let is = same_table schema.tables t table free.apart known free.listed (eqb-true _ _ same) in
          test_from _ schema.indexes (λ i listed. not_from_false _ (false_from_ne_true _ (λ both.
          let parts = and_parts _ _ both in clash i listed (ap (guards i) (sym is) ∙ parts.0) row h parts.1)))
      go t row known false same h = keeps_at Unique schema db t row keeps known h

-- rows under rowids of their own that are free
pub fresh_from : (news rows : List Row) → ((n : Row) → Has news n → is_taken rows n ≡ false) → IsAscending (λ a b. is_eq (value_cmp (rowid a) (rowid b)) ≡ false) news → are_fresh rows news ≡ true
fresh_from [] rows free apart = refl
fresh_from (n ∷ news) rows free apart = rw (free n (inl refl)) (fresh_from news (put_row n rows) later apart.1)
  where
    later : (m : Row) → Has news m → is_taken (put_row n rows) m ≡ false
    later m h = not_true (is_taken (put_row n rows) m) (λ taken.
        let r = some_has (λ (x : Row). is_eq (value_cmp (rowid x) (rowid m))) (put_row n rows) taken in
        elim (put_has n rows r.0 r.1) [
          | inl is ↦ true≢false (sym r.2 ∙ ap (λ (x : Row). is_eq (value_cmp (rowid x) (rowid m))) is ∙ all_has (λ (x : Row). is_eq (value_cmp (rowid n) (rowid x)) ≡ false) news m apart.0 h)
          | inr old ↦ true≢false (sym (some_from (λ (x : Row). is_eq (value_cmp (rowid x) (rowid m))) rows r.0 old r.2) ∙ free m (inr h))
        ])
