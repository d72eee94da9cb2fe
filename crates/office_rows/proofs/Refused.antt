-- Why a DELETE or an INSERT of a known meaning is refused: never for a key.
use Rattle.std.proofs.Common.{inl, inr, ◌⊎◌, ◌≡◌, ℕ, ℤ, List, [], ◌∷◌, length, Bool, true, false, not, cond, Option, None, Some, Ok, Err, Result, IsTrue, refl, sym, ap, subst, ◌∙◌, true≢false}
use Rattle.std.specs.Prelude.{MatchBool, nat_lt, ◌&&◌, ◌/◌}
use Rattle.std.specs.List.{list_all}
use Rattle.std.specs.Ordering.{is_lt, is_ne, int_cmp}
use Rattle.std.proofs.lemmas.Bool.{and_from, or_right}
use Rattle.std.proofs.lemmas.Cmp.{tied_itself}
use Rattle.sqlite.specs.Cast.{cast_row}
use Rattle.sqlite.specs.Command.TheVariants.{Select, Insert, Delete}
use Rattle.sqlite.specs.Does.{Does, AtPlace, OnRows, Concludes}
use Rattle.sqlite.specs.Edit.{Edit, edit_of}
use Rattle.sqlite.specs.Effect.{IsDatabase, value_rows, edit_error}
use Rattle.sqlite.specs.Listing.{understood}
use Rattle.sqlite.specs.Ops.{binary}
use Rattle.sqlite.specs.Order.{Row}
use Rattle.sqlite.specs.Rowids.TheVariants.{Chosen, Above, Given}
use Rattle.sqlite.specs.Rows.{Gives, Then, Queried, Sourced, Counter, Counts, CountsIn, Edited, Deletes, Inserts, Task, Written, stamped, count_of, last_id, higher, rowids_for, sequence}
use Rattle.sqlite.specs.Schema.{Schema}
use Rattle.sqlite.specs.Source.TheVariants.{Values}
use Rattle.sqlite.specs.State.{State, ExecutesInside, IsUnchanged, mode_of}
use Rattle.sqlite.specs.Table.{Table}
use Rattle.sqlite.specs.Term.{Term}
use Rattle.sqlite.specs.Tree.{Trees, rowid}
use Rattle.sqlite.specs.declared.types.Value.TheVariants.{Null, Int}
use Rattle.sqlite.specs.declared.error.Error.{Error}
use Rattle.sqlite.specs.declared.error.Error.TheVariants as error
use Rattle.sqlite.specs.declared.error.ErrorCode.TheVariants.{TooBig}
use Rattle.sqlite.proofs.Callers.{statement_of}
use Rattle.sqlite_rules.specs.Calls.{ids_of}
use Rattle.sqlite_rules.specs.Edit.{IsRefused, IsOversized, is_taken, taken_by, without_all, next_rowid}
use Rattle.sqlite_rules.specs.Lists.{Has}
use Rattle.sqlite_rules.specs.declared.error.Refusal.{Refusal}
use Rattle.sqlite_rules.specs.declared.error.Refusal.TheVariants.{Violates, Mismatch, NoRowid, BadReference, TooDeep}
use Rattle.sqlite_rules.proofs.ListLemmas.{all_has, test_from}
use Rattle.sqlite_rules.proofs.TableLemmas.{put_has, without_all_has}
use Rattle.sqlite_schema.specs.Rules.{agree, differ, guards, passes, Keeps, references_fit, is_key_of, is_key_if_to}
use Rattle.sqlite_schema.specs.declared.program.Program.{Program}
use Rattle.sqlite_schema.specs.declared.schema.Constraint.TheVariants.{Datatype, NotNull, Check, PrimaryKey, Unique, ForeignKey}
use Rattle.sqlite_schema.specs.declared.schema.Index.{Index}
use Rattle.sqlite_schema.specs.declared.schema.Keys.{Keys}
use Rattle.sqlite_schema.specs.declared.schema.Reference.{Reference}
use Rattle.sqlite_sql.specs.Ops.{fits_i64}
use Rattle.sqlite_typing.specs.Types.{accepts_terms}
use Rattle.sqlite_trees.specs.Tree.{put_row}
use Rattle.sqlite_value.proofs.OrderLemmas.{value_cmp_total}
use Rattle.std.specs.List.{fold}
use Rattle.office_words.specs.declared.fault.Fault.TheVariants.{Disk}
use Rattle.office_rows.specs.Entries.{row_of}
use Rattle.office_rows.specs.Faults.{fault_of_error}
use Rattle.office_rows.specs.Refusals.{LacksRowid}
use Rattle.office_rows.proofs.Halting.{IsOne, IsFree, halted, never_asks, no_references, concluded, edit_halted, unique_with, refused_by}
use Rattle.office_rows.proofs.Plain.{Means, from_test}
use Rattle.office_rows.proofs.Sure.{IsSureQuery}

pub differ_itself : (z : ℤ) → differ (Int z) (Int z) ≡ false
unfolding binary
differ_itself z = from_test _ ∙ ap is_ne (tied_itself value_cmp_total (Int z))

pub edit_is_disk : (why : Refusal) → fault_of_error (edit_error why) ≡ Disk
edit_is_disk (Violates rule) = refl
edit_is_disk Mismatch = refl
edit_is_disk NoRowid = refl
edit_is_disk BadReference = refl
edit_is_disk TooDeep = refl

-- each column has a value of its type
abbrev pub IsRight : Schema → Trees → Table → Row → Type 0
IsRight schema db table row = (passes Datatype schema db table row ≡ true) × (passes NotNull schema db table row ≡ true) × (passes Check schema db table row ≡ true)

-- a rowid is lacking so, or one of the rows that are written can't be stored
abbrev pub Stops : Schema → Table → Type 0 → (Row → Type 0) → Option Error → Type 0
Stops schema table Lacks IsWritten (Some e) = (fault_of_error e ≡ Disk) × Lacks
Stops schema table Lacks IsWritten None = (row : Row) × IsWritten row × IsOversized schema table row

not_both : (b : Bool) → (b && true) ≡ false → b ≡ true → ⊥
not_both b h is = true≢false (sym (and_from _ _ is refl) ∙ h)

pub was_taken : (b : Bool) → (not b && true) ≡ false → b ≡ true
was_taken true h = refl
was_taken false h = absurd (true≢false h)

and_false : (b : Bool) → (b && true) ≡ false → b ≡ false
and_false true h = absurd (true≢false h)
and_false false h = refl

pub uncounted_stop : {A : Type 0} (a : A) (P : Type 0) (b : Bool) (stop : Option Error) → b ≡ false → MatchBool b P (◌≡◌ {A = Result A (Option Error)} (Err stop) (Ok a)) → ⊥
uncounted_stop a P true stop is h = absurd (true≢false is)
uncounted_stop a P false stop is h = absurd (let z = h in cc)

module _ (schema : Schema) (at : ℕ) (table : Table) (free : IsFree schema at table) where
  list_of : (t : Table) → Has schema.tables t → t.references ≡ []
  list_of t known = all_has _ schema.tables t free.unreferred known

  pub referred : (adds removes : Bool) → references_fit schema table adds removes ≡ true
  referred adds removes =
      and_from _ _ (or_right _ _ (subst (λ (l : List Reference). list_all (is_key_of schema) l ≡ true) (sym (list_of table free.listed)) refl))
      (or_right _ _ (test_from _ schema.tables (λ t known. subst (λ (l : List Reference). list_all (is_key_if_to schema table) l ≡ true) (sym (list_of t known)) refl)))

  -- ---- an edit that only takes rows out

  pub none_refused : (db : Trees) → Keeps Unique schema db → (keys : Keys) → (gone : List ℤ) (why : Refusal) → IsRefused schema keys db (record { table = table; gone = gone; news = [] }) why → ⊥
  none_refused db keeps keys gone (Violates Datatype) h = true≢false h
  none_refused db keeps keys gone (Violates NotNull) h = true≢false h
  none_refused db keeps keys gone (Violates Check) h = true≢false h
  none_refused db keeps keys gone (Violates PrimaryKey) h = true≢false h
  none_refused db keeps keys gone (Violates Unique) h =
      h (unique_with schema at table free db keeps (without_all (db table.tree) gone) [] (without_all (db table.tree) gone) (λ r has. inr has) (λ r has. without_all_has gone (db table.tree) r has)
      (λ i known on n r none. absurd none) (λ i known on n m none. absurd none))
  none_refused db keeps keys gone (Violates ForeignKey) h = h
  none_refused db keeps keys gone Mismatch h = true≢false h
  none_refused db keeps keys gone NoRowid h = true≢false h
  none_refused db keeps keys gone BadReference h = true≢false (sym (or_right _ _ (referred (nat_lt 0 (length {A = Row} [])) (nat_lt 0 (length gone)))) ∙ h)
  none_refused db keeps keys gone TooDeep h = h

  -- ---- an edit that puts one row in

  module _ (db : Trees) (keeps : Keeps Unique schema db) (keys : Keys) (gone : List ℤ) (id : ℤ) (columns : Row) (rules : IsRight schema db table (Int id ∷ columns))
      (taken : is_taken (without_all (db table.tree) gone) (Int id ∷ columns) ≡ true → LacksRowid (db table.tree)) (unfit : fits_i64 id ≡ false → LacksRowid (db table.tree))
      (alone : (i : Index) → Has schema.indexes i → guards i table ≡ true → (r : Row) → Has (without_all (db table.tree) gone) r → agree i.order i.columns r i.columns (Int id ∷ columns) ≡ true → ⊥) where
    abbrev new : Row
    new = Int id ∷ columns

    one_refused : (why : Refusal) → IsRefused schema keys db (record { table = table; gone = gone; news = new ∷ [] }) why → LacksRowid (db table.tree)
    one_refused (Violates Datatype) h = absurd (not_both _ h rules.0)
    one_refused (Violates NotNull) h = absurd (not_both _ h rules.1)
    one_refused (Violates Check) h = absurd (not_both _ h rules.2)
    one_refused (Violates PrimaryKey) h = taken (was_taken _ h)
    one_refused (Violates Unique) h =
        absurd (h (unique_with schema at table free db keeps (put_row new (without_all (db table.tree) gone)) (new ∷ []) (without_all (db table.tree) gone)
        (λ r has. elim (put_has new (without_all (db table.tree) gone) r has) [ inl is ↦ inl (inl is) | inr old ↦ inr old ]) (λ r has. without_all_has gone (db table.tree) r has)
        (λ i known on n r is old same. single i known on n r is old same) (λ i known on n m is also same. itself n m is also)))
      where
        single : (i : Index) → Has schema.indexes i → guards i table ≡ true → (n r : Row) → Has (new ∷ []) n → Has (without_all (db table.tree) gone) r → agree i.order i.columns r i.columns n ≡ true → ⊥
        single i known on n r (inl is) old same = alone i known on r old (subst (λ (k : Row). agree i.order i.columns r i.columns k ≡ true) is same)
        single i known on n r (inr none) old same = none

        itself : (n m : Row) → Has (new ∷ []) n → Has (new ∷ []) m → differ (rowid m) (rowid n) ≡ false
        itself n m (inl is) (inl also) = (λ i. differ (rowid (also i)) (rowid (is i))) ∙ differ_itself id
        itself n m (inl is) (inr none) = absurd none
        itself n m (inr none) also = absurd none
    one_refused (Violates ForeignKey) h = absurd h
    one_refused Mismatch h = absurd (true≢false h)
    one_refused NoRowid h = unfit (and_false _ h)
    one_refused BadReference h = absurd (true≢false (sym (or_right _ _ (referred (nat_lt 0 (length (new ∷ []))) (nat_lt 0 (length gone)))) ∙ h))
    one_refused TooDeep h = absurd h

    pub one_stops : (stop : Option Error) → Edited schema keys db (record { table = table; gone = gone; news = new ∷ [] }) (Err stop) → Stops schema table (LacksRowid (db table.tree)) (λ row. row ≡ new) stop
    one_stops stop h =
        let edit : Edit = record { table = table; gone = gone; news = new ∷ [] } in
        elim (edit_halted schema keys db edit (free.is_table.free (taken_by db edit) edit.news keys) stop h) [
          | inl refused ↦ subst (Stops schema table (LacksRowid (db table.tree)) (λ row. row ≡ new)) (sym refused.2) (edit_is_disk refused.0, one_refused refused.0 refused.1)
          | inr big ↦ subst (Stops schema table (LacksRowid (db table.tree)) (λ row. row ≡ new)) (sym big.3) (big.0, only big.0 big.1, big.2)
        ]
      where
        only : (row : Row) → Has (new ∷ []) row → row ≡ new
        only row (inl is) = is
        only row (inr none) = absurd none

  -- ---- the statements

  module _ (sql : List ℕ) (params : Row) (one : IsOne schema sql params) (old new : State) (e : Error) (has : old.now.schema ≡ schema) (sound : IsDatabase old.now) (begun : IsTrue old.in_transaction)
      (unlimited : old.step_limit ≡ None) (failed : ExecutesInside 0 sql params old new (Err e)) (why : IsUnchanged old new ⊎ (e ≡ error.SqliteFailure TooBig)) where
    abbrev pub task : Task
    task = record { limit = None; keys = (mode_of old).keys; schema = schema; table = table; params = params }

    abbrev pub trees : Trees
    trees = old.now.trees

    pub keeps_unique : Keeps Unique schema trees
    keeps_unique = subst (λ (s : Schema). Keeps Unique s trees) has (sound.obeys.rules Unique)

    module _ (q : Program) (means : Means schema sql (Delete at q)) (sure : IsSureQuery schema params (Select q [])) where
      edit_in : List Row → Edit
      edit_in rows = edit_of trees table (ids_of rows) Given 0 []

      deletes : (stop : Option Error) → Deletes task q trees (Err stop) → ⊥
      unfolding edit_in
      deletes stop h =
          elim (halted (Queried None (record { schema = schema; trees = trees }) q params)
          (λ rows. Then (Edited schema task.keys trees (edit_in rows)) (λ next. Gives {A = Written} (record { trees = next; rows = taken_by trees (edit_in rows); last = None }))) stop h) [
            | inl asks ↦ never_asks schema (record { schema = schema; trees = trees }) q params stop refl sure asks
            | inr rows ↦ elim (halted (Edited schema task.keys trees (edit_in rows.0)) (λ next. Gives {A = Written} (record { trees = next; rows = taken_by trees (edit_in rows.0); last = None })) stop rows.2) [
              | inl edited ↦ elim (edit_halted schema task.keys trees (edit_in rows.0) (free.is_table.free (taken_by trees (edit_in rows.0)) [] task.keys) stop edited) [
                | inl refused ↦ none_refused trees keeps_unique task.keys (ids_of rows.0) refused.0 refused.1
                | inr big ↦ big.1
              ]
              | inr gives ↦ absurd (let z = gives.2 in cc)
            ]
          ]

      delete_halts : (stop : Option Error) → Does old.step_limit (mode_of old) params old.now (statement_of sql (understood schema sql)) None (Delete at q) (Err stop) → ⊥
      delete_halts stop h =
          let text = statement_of sql (understood schema sql) in
          let placed : OnRows task (mode_of old) None (Delete at q) trees (Err stop) =
          subst (λ (o : Option Table). AtPlace (λ t. OnRows (record task { table = t }) (mode_of old) None (Delete at q) trees) o (Err stop)) free.is_table.there
          (subst (λ (p : Option ℕ × Schema). Does p.0 (mode_of old) params (record { schema = p.1; trees = trees }) text None (Delete at q) (Err stop)) (λ i. (unlimited i, has i)) h) in
          elim (halted (Deletes task q trees) (Concludes task (mode_of old) None) stop placed) [
            | inl stopped ↦ deletes stop stopped
            | inr went ↦ concluded task (mode_of old) went.0 stop (λ among. no_references schema free.unreferred among went.0.trees) went.2
          ]

      -- it is never refused
      pub delete_refused : ⊥
      delete_refused = elim (refused_by schema sql params (Delete at q) refl refl means one old new e has begun failed why) [ inl stopped ↦ delete_halts (Some e) stopped | inr big ↦ delete_halts None big.1 ]

    module _ {X : Type 0} (encode : X → Row) (x : X) (terms : List Term) (width : ℕ) (source : Row) (means : Means schema sql (Insert at (Values terms width)))
        (typed : accepts_terms terms (stamped table params) ≡ true) (source_is : value_rows (stamped table params) width (length terms / width) terms ≡ source ∷ [])
        (cast_is : cast_row table source ≡ Null ∷ encode x) (rules : (db : Trees) (id : ℤ) → IsRight schema db table (row_of encode (id, x)))
        (alone : (i : Index) → Has schema.indexes i → guards i table ≡ true → (id : ℤ) (r : Row) → Has (trees table.tree) r → agree i.order i.columns r i.columns (row_of encode (id, x)) ≡ true → ⊥) where
      abbrev pub put : Row
      put = row_of encode (next_rowid (trees table.tree), x)

      abbrev edit_with : Bool → ℤ → List Row → Edit
      edit_with counted top rows = edit_of trees table [] (cond counted (Above top) Chosen) 0 rows

      never_sources : (stop : Option Error) → Sourced None (record { schema = schema; trees = trees }) (stamped table params) (Values terms width) (Err stop) → ⊥
      never_sources None h = h
      never_sources (Some e) (inl h) = true≢false (sym typed ∙ h.1)
      never_sources (Some e) (inr h) = absurd (let k : false ≡ true = h.1 in cc)

      never_counts : (mid : Trees) (counter : Option Row) (top : ℤ) (stop : Option Error) → Counts task mid counter top (Err stop) → ⊥
      never_counts mid counter top stop h =
          uncounted_stop {A = Trees} mid (CountsIn task mid counter top (sequence schema) (Err stop)) (cond table.is_counted (is_lt (int_cmp (count_of counter) top)) false) stop
          (ap (λ b. cond b (is_lt (int_cmp (count_of counter) top)) false) free.is_table.uncounted) h

      edit_is : (counted : Bool) (top : ℤ) (rows : List Row) → counted ≡ false → rows ≡ source ∷ [] → edit_with counted top rows ≡ record { table = table; gone = []; news = put ∷ [] }
      edit_is counted top rows uncounted are =
          (λ i. edit_with (uncounted i) top (are i)) ∙ (λ i. record { table = table; gone = []; news = with_id (cast_is i) ∷ [] })
        where
          with_id : Row → Row
          with_id row = Rattle.sqlite_rules.specs.Edit.with_rowid Chosen (trees table.tree) row

      inserts : (stop : Option Error) → Inserts task (Values terms width) trees (Err stop) → Stops schema table (LacksRowid (trees table.tree)) (λ row. row ≡ put) stop
      inserts stop h =
          let edit = λ (counter : Option Row) (rows : List Row). edit_of trees table [] (rowids_for table (count_of counter)) 0 rows in
          let after = λ (counter : Option Row) (rows : List Row) (mid : Trees).
          Then (Counts task mid counter (fold higher (count_of counter) (edit counter rows).news)) (λ next. Gives {A = Written} (record { trees = next; rows = (edit counter rows).news; last = last_id (edit counter rows).news })) in
          elim (halted (Sourced None (record { schema = schema; trees = trees }) (stamped table params) (Values terms width))
          (λ rows. Then (Counter task trees) (λ counter. Then (Edited schema task.keys trees (edit counter rows)) (after counter rows))) stop h) [
            | inl sources ↦ absurd (never_sources stop sources)
            | inr rows ↦ elim (halted (Counter task trees) (λ counter. Then (Edited schema task.keys trees (edit counter rows.0)) (after counter rows.0)) stop rows.2) [
              | inl counts ↦ absurd (uncounted_stop {A = Option Row} None _ table.is_counted stop free.is_table.uncounted counts)
              | inr counter ↦ elim (halted (Edited schema task.keys trees (edit counter.0 rows.0)) (after counter.0 rows.0) stop counter.2) [
                | inl edited ↦
                    let is = edit_is table.is_counted (count_of counter.0) rows.0 free.is_table.uncounted (rows.1.1 ∙ source_is) in
                    one_stops trees keeps_unique task.keys [] (next_rowid (trees table.tree)) (encode x) (rules trees (next_rowid (trees table.tree))) (λ taken. inl taken) (λ unfit. inr (inl unfit))
                    (λ i known on r old same. alone i known on (next_rowid (trees table.tree)) r old same) stop (subst (λ (k : Edit). Edited schema task.keys trees k (Err stop)) is edited)
                | inr mid ↦ elim (halted (Counts task mid.0 counter.0 (fold higher (count_of counter.0) (edit counter.0 rows.0).news))
                    (λ next. Gives {A = Written} (record { trees = next; rows = (edit counter.0 rows.0).news; last = last_id (edit counter.0 rows.0).news })) stop mid.2) [
                      | inl counted ↦ absurd (never_counts mid.0 counter.0 (fold higher (count_of counter.0) (edit counter.0 rows.0).news) stop counted)
                      | inr gives ↦ absurd (let z = gives.2 in cc)
                    ]
              ]
            ]
          ]

      insert_halts : (stop : Option Error) → Does old.step_limit (mode_of old) params old.now (statement_of sql (understood schema sql)) None (Insert at (Values terms width)) (Err stop)
          → Stops schema table (LacksRowid (trees table.tree)) (λ row. row ≡ put) stop
      insert_halts stop h =
          let text = statement_of sql (understood schema sql) in
          let command = Insert at (Values terms width) in
          let placed : OnRows task (mode_of old) None command trees (Err stop) =
          subst (λ (o : Option Table). AtPlace (λ t. OnRows (record task { table = t }) (mode_of old) None command trees) o (Err stop)) free.is_table.there
          (subst (λ (p : Option ℕ × Schema). Does p.0 (mode_of old) params (record { schema = p.1; trees = trees }) text None command (Err stop)) (λ i. (unlimited i, has i)) h) in
          elim (halted (Inserts task (Values terms width) trees) (Concludes task (mode_of old) None) stop placed) [
            | inl stopped ↦ inserts stop stopped
            | inr went ↦ absurd (concluded task (mode_of old) went.0 stop (λ among. no_references schema free.unreferred among went.0.trees) went.2)
          ]

      -- the table has no rowid for it, or it can't be stored
      pub insert_refused : ((fault_of_error e ≡ Disk) × LacksRowid (trees table.tree)) ⊎ ((e ≡ error.SqliteFailure TooBig) × IsOversized schema table put)
      insert_refused = elim (refused_by schema sql params (Insert at (Values terms width)) refl refl means one old new e has begun failed why) [
        | inl stopped ↦ inl (insert_halts (Some e) stopped)
        | inr big ↦ let it = insert_halts None big.1 in inr (big.0, subst (IsOversized schema table) it.1 it.2)
      ]
