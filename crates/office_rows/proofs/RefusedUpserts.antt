-- Why an upsert of a known meaning is refused: never for a key.
use Rattle.std.proofs.Common.{inl, inr, ◌⊎◌, ◌≡◌, ℕ, ℤ, List, [], ◌∷◌, ◌++◌, map, length, Bool, true, false, cond, Option, None, Some, Err, IsTrue, refl, sym, ap, subst, ◌∙◌, true≢false}
use Rattle.std.specs.Prelude.{◌/◌}
use Rattle.std.specs.List.{list_all}
use Rattle.std.specs.List.Sorted.{IsPermutation}
use Rattle.std.specs.Bool.{Decides}
use Rattle.std.specs.Ordering.{is_eq, is_lt, int_cmp}
use Rattle.sqlite.specs.Cast.{cast_row}
use Rattle.sqlite.specs.Command.TheVariants.{Select, InsertOr}
use Rattle.sqlite.specs.Does.{Does, AtPlace, OnRows, Concludes}
use Rattle.sqlite.specs.Edit.{Edit, edit_of}
use Rattle.sqlite.specs.Effect.{IsDatabase, value_rows}
use Rattle.sqlite.specs.Listing.{understood}
use Rattle.sqlite.specs.Order.{Row}
use Rattle.sqlite.specs.Program.{overlay}
use Rattle.sqlite.specs.Rowids.TheVariants.{Chosen, Above, Given}
use Rattle.sqlite.specs.Rows.{Gives, Then, Queried, Sourced, Counter, Counts, CountsIn, Edited, InsertsOr, Puts, Clears, Meets, Updates, Upserts, Judged, Tries, TriesEach, Task, Written, count_of, higher, joined, last_id, nothing, sequence, shown, stamped}
use Rattle.sqlite.specs.Schema.{Schema}
use Rattle.sqlite.specs.Source.TheVariants.{Values}
use Rattle.sqlite.specs.State.{State, ExecutesInside, IsUnchanged, mode_of}
use Rattle.sqlite.specs.Table.{Table}
use Rattle.sqlite.specs.Term.{Term, col, eval_all, holds}
use Rattle.sqlite.specs.Tree.{Trees, rowid}
use Rattle.sqlite.specs.declared.types.Value.TheVariants.{Null, Int}
use Rattle.sqlite.specs.declared.error.Error.{Error}
use Rattle.sqlite.specs.declared.error.Error.TheVariants as error
use Rattle.sqlite.specs.declared.error.ErrorCode.TheVariants.{TooBig}
use Rattle.sqlite.proofs.Callers.{statement_of, one_permutation}
use Rattle.sqlite_rules.specs.Calls.{ids_of}
use Rattle.sqlite_rules.specs.Edit.{IsOversized, next_rowid, with_rowid, without_all, id_in}
use Rattle.sqlite_rules.specs.Keys.{AreConflicts, conflicts}
use Rattle.sqlite_rules.specs.Lists.{Has}
use Rattle.sqlite_rules.specs.Steps.{IsJudged}
use Rattle.sqlite_rules.specs.declared.error.Refusal.{Refusal}
use Rattle.sqlite_rules.specs.declared.error.Refusal.TheVariants.{Violates, Mismatch, NoRowid, BadReference, TooDeep}
use Rattle.sqlite_rules.proofs.ListLemmas.{some_has, fails_from}
use Rattle.sqlite_rules.proofs.TableLemmas.{without_all_has}
use Rattle.sqlite_schema.specs.Rules.{agree, guards}
use Rattle.sqlite_schema.specs.declared.command.Conflict.TheVariants.{Abort}
use Rattle.sqlite_schema.specs.declared.command.Upsert.{Upsert}
use Rattle.sqlite_schema.specs.declared.program.Program.{Program}
use Rattle.sqlite_schema.specs.declared.schema.Constraint.TheVariants.{Datatype, NotNull, Check, PrimaryKey, Unique, ForeignKey}
use Rattle.sqlite_schema.specs.declared.schema.Index.{Index}
use Rattle.sqlite_sql.specs.Ops.{fits_i64}
use Rattle.sqlite_typing.specs.Types.{accepts_terms}
use Rattle.sqlite_trees.specs.Tree.{has_rowid}
use Rattle.sqlite_value.specs.Order.{value_cmp}
use Rattle.office_words.specs.declared.fault.Fault.TheVariants.{Disk}
use Rattle.office_rows.specs.Entries.{Keeps, row_of, HaveOwnKeys}
use Rattle.office_rows.specs.Faults.{fault_of_error}
use Rattle.office_rows.specs.Refusals.{LacksRowid}
use Rattle.office_rows.proofs.Halting.{IsOne, IsFree, halted, never_asks, no_references, concluded, refused_by}
use Rattle.office_rows.proofs.Plain.{plain_query, Means}
use Rattle.office_rows.proofs.Reading.{answered_pairs}
use Rattle.office_rows.proofs.Refused.{IsRight, Stops, one_stops, uncounted_stop, keeps_unique}
use Rattle.office_rows.proofs.RefusedUpdates.{gone_away}
use Rattle.office_rows.proofs.Rowids.{has_mapped, mapped_has, one_each, reflexive}
use Rattle.office_rows.proofs.Stored.{is_at}
use Rattle.office_rows.proofs.Sure.{IsSureQuery}
use Rattle.office_rows.proofs.Upserting.{only_one, one_of}

stops_as : (schema : Schema) (table : Table) (Lacks : Type 0) (First Second : Row → Type 0) → ((row : Row) → First row → Second row) → (stop : Option Error) → Stops schema table Lacks First stop
    → Stops schema table Lacks Second stop
stops_as schema table Lacks First Second given None h = (h.0, given h.0 h.1, h.2)
stops_as schema table Lacks First Second given (Some e) h = h

module _ (schema : Schema) (at : ℕ) (table : Table) (free : IsFree schema at table) (sql : List ℕ) (params : Row) (one : IsOne schema sql params) (old new : State) (e : Error) (has : old.now.schema ≡ schema)
    (sound : IsDatabase old.now) (begun : IsTrue old.in_transaction) (unlimited : old.step_limit ≡ None) (failed : ExecutesInside 0 sql params old new (Err e))
    (why : IsUnchanged old new ⊎ (e ≡ error.SqliteFailure TooBig)) where
  abbrev trees : Trees
  trees = old.now.trees

  abbrev rows : List Row
  rows = trees table.tree

  abbrev doing : Task
  doing = record { limit = None; keys = (mode_of old).keys; schema = schema; table = table; params = params }

  module _ {K X : Type 0} (same : K → K → Bool) (decides : (a b : K) → Decides (same a b) (a ≡ b)) (key : X → K) (encode : X → Row) (x : X)
      (change : X → X) (becomes : (y : X) → key y ≡ key x → change y ≡ x) (terms : List Term) (width : ℕ) (source : Row) (target : List ℕ) (project tests : List Term)
      (means : Means schema sql (InsertOr at Abort (Values terms width) (record { target = Some target; update = Some (record { lets = []; body = plain_query (col 1 0 ∷ project) tests table.tree }) } ∷ [])))
      (typed : accepts_terms terms (stamped table params) ≡ true)
      (source_is : value_rows (stamped table params) width (length terms / width) terms ≡ source ∷ [])
      (cast_is : cast_row table source ≡ Null ∷ encode x)
      (sure : (id next : ℤ) → IsSureQuery schema (params ++ Int id ∷ shown table (row_of encode (next, x))) (Select (record { lets = []; body = plain_query (col 1 0 ∷ project) tests table.tree }) []))
      (casts : (id : ℤ) → cast_row table (row_of encode (id, x)) ≡ row_of encode (id, x))
      (agrees : (id : ℤ) (k : ℤ × X) → conflicts (Some target) schema.indexes table (row_of encode (id, x)) (row_of encode k) ≡ is_at same decides key (key x) k.1)
      (tested : (id : ℤ) (more : Row) (k : ℤ × X) → list_all (holds ((params ++ Int id ∷ more) ∷ row_of encode k ∷ [])) tests ≡ is_eq (value_cmp (Int k.0) (Int id)))
      (sets : (id : ℤ) (more : Row) (k : ℤ × X) → eval_all project ((params ++ Int id ∷ more) ∷ row_of encode k ∷ []) ≡ row_of encode (k.0, change k.1))
      (rules : (db : Trees) (id : ℤ) → IsRight schema db table (row_of encode (id, x)))
      (xs : List X) (entries : Keeps encode rows xs) (own : HaveOwnKeys (is_at same decides key) xs)
      (alone : (i : Index) → Has schema.indexes i → guards i table ≡ true → (id : ℤ) (k : ℤ × X) → Has entries.kept k → agree i.order i.columns (row_of encode k) i.columns (row_of encode (id, x)) ≡ true
      → is_at same decides key (key x) k.1 ≡ true) where
    abbrev at_key : X → Bool
    at_key = is_at same decides key (key x)

    abbrev update : Program
    update = record { lets = []; body = plain_query (col 1 0 ∷ project) tests table.tree }

    abbrev clause : Upsert
    clause = record { target = Some target; update = Some update }

    abbrev new_id : ℤ
    new_id = next_rowid rows

    abbrev new_row : Row
    new_row = with_rowid Chosen rows (cast_row table source)

    new_row_is : new_row ≡ row_of encode (new_id, x)
    new_row_is = ap (with_rowid Chosen rows) cast_is

    -- the entry, under some rowid
    abbrev pub Put : Row → Type 0
    Put row = (id : ℤ) × (row ≡ row_of encode (id, x))

    abbrev Ends : Option Error → Type 0
    Ends = Stops schema table (LacksRowid rows) Put

    back : (r : Row) → Has rows r → (k : ℤ × X) × Has entries.kept k × (r ≡ row_of encode k)
    back r h = has_mapped (row_of encode) entries.kept r (subst (λ (rs : List Row). Has rs r) entries.rows_are h)

    there : (k : ℤ × X) → Has entries.kept k → Has rows (row_of encode k)
    there k h = subst (λ (rs : List Row). Has rs (row_of encode k)) (sym entries.rows_are) (mapped_has (row_of encode) entries.kept k h)

    unique : Rattle.sqlite_schema.specs.Rules.Keeps Unique schema trees
    unique = keeps_unique schema at table free sql params one old new e has sound begun unlimited failed why

    -- ---- where no entry has the key

    abbrev put_edit : Row → Edit
    put_edit row = edit_of trees table [] Given 0 (row ∷ [])

    put_new : AreConflicts (Some target) schema.indexes table rows new_row [] → (stop : Option Error) → Puts doing new_row trees (Err stop) → Ends stop
    put_new none stop h =
        elim (halted (Edited schema doing.keys trees (put_edit new_row)) (λ next. Gives {A = Written} (record { trees = next; rows = (put_edit new_row).news; last = last_id (put_edit new_row).news })) stop h) [
          | inl edited ↦ stops_as schema table (LacksRowid rows) (λ row. row ≡ row_of encode (new_id, x)) Put (λ row is. (new_id, is)) stop
              (one_stops schema at table free trees unique doing.keys [] new_id (encode x) (rules trees new_id) (λ taken. inl taken) (λ unfit. inr (inl unfit)) absent stop
              (subst (λ (k : Edit). Edited schema doing.keys trees k (Err stop)) edit_is edited))
          | inr gives ↦ absurd (let z = gives.2 in cc)
        ]
      where
        edit_is : put_edit new_row ≡ record { table = table; gone = []; news = row_of encode (new_id, x) ∷ [] }
        edit_is = (λ i. put_edit (new_row_is i)) ∙ (λ i. record { table = table; gone = []; news = casts new_id i ∷ [] })

        absent : (i : Index) → Has schema.indexes i → guards i table ≡ true → (r : Row) → Has rows r → agree i.order i.columns r i.columns (row_of encode (new_id, x)) ≡ true → ⊥
        absent i known on r old tie =
            let k = back r old in
            let here = alone i known on new_id k.0 k.1 (subst (λ (q : Row). agree i.order i.columns q i.columns (row_of encode (new_id, x)) ≡ true) k.2 tie) in
            none.complete (row_of encode k.0) (there k.0 k.1) (ap (λ (q : Row). conflicts (Some target) schema.indexes table q (row_of encode k.0)) new_row_is ∙ agrees new_id k.0 ∙ here)

    cleared_so : (found : List Row) (stop : Option Error) → Clears doing Abort new_row trees found (Err stop) → Puts doing new_row trees (Err stop)
    cleared_so [] stop h = h
    cleared_so (r ∷ rs) stop h = h

    -- ---- where one has

    abbrev over_edit : List Row → Edit
    over_edit answer = edit_of trees table (ids_of answer) Given 1 answer

    abbrev given : ℤ → Row
    given id = params ++ Int id ∷ shown table (row_of encode (new_id, x))

    put_over : (j : ℤ × X) → Has entries.kept j → at_key j.1 ≡ true → (stop : Option Error) → Updates doing update (given j.0) trees (Err stop) → Ends stop
    put_over j has_j here stop h =
        elim (halted (Queried None (record { schema = schema; trees = trees }) update (given j.0))
        (λ answer. Then (Edited schema doing.keys trees (over_edit answer)) (λ next. Gives {A = Written} (record { trees = next; rows = (over_edit answer).news; last = None }))) stop h) [
          | inl asks ↦ absurd (never_asks schema (record { schema = schema; trees = trees }) update (given j.0) stop refl (sure j.0 new_id) asks)
          | inr asked ↦ elim (halted (Edited schema doing.keys trees (over_edit asked.0)) (λ next. Gives {A = Written} (record { trees = next; rows = (over_edit asked.0).news; last = None })) stop asked.2) [
            | inl edited ↦
                let more = shown table (row_of encode (new_id, x)) in
                let over : Keeps encode (overlay trees [] table.tree) xs = record { kept = entries.kept; rows_are = free.is_table.plainly trees ∙ entries.rows_are; apart = entries.apart; same = entries.same } in
                let answer = answered_pairs encode (λ k. Int k.0 ∷ row_of encode (k.0, change k.1)) (λ k. is_eq (value_cmp (Int k.0) (Int j.0))) (col 1 0 ∷ project) tests (given j.0)
                (tested j.0 more) (λ k. ap (λ r. Int k.0 ∷ r) (sets j.0 more k)) (overlay trees []) table.tree asked.0 xs (asked.1.answer Null) over in
                let alone_there = only_one (λ (k : ℤ × X). is_eq (value_cmp (Int k.0) (Int j.0))) entries.kept j entries.apart has_j (reflexive j.0) (λ k has_k is. one_each entries.kept entries.apart k j has_k has_j is) in
                let row = one_permutation _ asked.0 (subst (λ (ks : List (ℤ × X)). IsPermutation (map (λ k. Int k.0 ∷ row_of encode (k.0, change k.1)) ks) asked.0) alone_there answer) in
                let is : over_edit asked.0 ≡ record { table = table; gone = j.0 ∷ []; news = row_of encode (j.0, x) ∷ [] } =
                (λ i. over_edit (row i))
                ∙ (λ i. record { table = table; gone = j.0 ∷ []; news = cast_row table (row_of encode (j.0, becomes j.1 (sym ((decides (key x) (key j.1)).0 here)) i)) ∷ [] })
                ∙ (λ i. record { table = table; gone = j.0 ∷ []; news = casts j.0 i ∷ [] }) in
                stops_as schema table (LacksRowid rows) (λ row. row ≡ row_of encode (j.0, x)) Put (λ row is. (j.0, is)) stop
                (one_stops schema at table free trees unique doing.keys (j.0 ∷ []) j.0 (encode x) (rules trees j.0) taken unfit others stop (subst (λ (k : Edit). Edited schema doing.keys trees k (Err stop)) is edited))
            | inr gives ↦ absurd (let z = gives.2 in cc)
          ]
        ]
      where
        taken : Rattle.sqlite_rules.specs.Edit.is_taken (without_all rows (j.0 ∷ [])) (row_of encode (j.0, x)) ≡ true → LacksRowid rows
        taken h =
            let r = some_has (λ (r : Row). is_eq (value_cmp (rowid r) (Int j.0))) (without_all rows (j.0 ∷ [])) h in
            absurd (true≢false (sym r.2 ∙ gone_away (j.0 ∷ []) rows r.0 j.0 r.1 (inl refl)))

        unfit : fits_i64 j.0 ≡ false → LacksRowid rows
        unfit h = inr (inr (fails_from (λ (r : Row). fits_i64 (id_in (rowid r))) rows (row_of encode j) (there j has_j) h))

        others : (i : Index) → Has schema.indexes i → guards i table ≡ true → (r : Row) → Has (without_all rows (j.0 ∷ [])) r → agree i.order i.columns r i.columns (row_of encode (j.0, x)) ≡ true → ⊥
        others i known on r old tie =
            let k = back r (without_all_has (j.0 ∷ []) rows r old) in
            let at = alone i known on j.0 k.0 k.1 (subst (λ (q : Row). agree i.order i.columns q i.columns (row_of encode (j.0, x)) ≡ true) k.2 tie) in
            let is = one_of (is_at same decides key) encode rows xs entries own k.0 j k.1 has_j (key x) at here in
            true≢false (sym (reflexive j.0) ∙ (λ t. is_eq (value_cmp (Int (sym is t).0) (Int j.0))) ∙ (λ t. has_rowid j.0 (sym k.2 t)) ∙ gone_away (j.0 ∷ []) rows r j.0 old (inl refl))

    met : (found : List Row) → AreConflicts (Some target) schema.indexes table rows new_row found → (stop : Option Error)
        → Meets doing (Upserts doing Abort new_row trees []) new_row trees clause found (Err stop) → Ends stop
    met [] are stop h = put_new are stop (cleared_so h.0 stop h.2)
    met (t ∷ rest) are stop h =
        let found = are.sound t (inl refl) in
        let j = back found.0 found.1 in
        let id : rowid t ≡ Int j.0.0 = ap rowid found.3 ∙ ap rowid j.2 in
        let here : at_key j.0.1 ≡ true = sym (agrees new_id j.0) ∙ (λ i. conflicts (Some target) schema.indexes table (sym new_row_is i) (sym j.2 i)) ∙ found.2 in
        put_over j.0 j.1 here stop (subst (λ (p : Row). Updates doing update p trees (Err stop)) (λ i. params ++ id i ∷ shown table (new_row_is i)) h)

    -- ---- the row is tried

    never_judged : (w : Refusal) → IsJudged table new_row (Some w) → ⊥
    never_judged w h = by w (subst (λ (r : Row). IsJudged table r (Some w)) new_row_is h)
      where
        by : (w : Refusal) → IsJudged table (row_of encode (new_id, x)) (Some w) → ⊥
        by (Violates Datatype) h = true≢false (sym (rules trees new_id).0 ∙ h)
        by (Violates NotNull) h = true≢false (sym (rules trees new_id).1 ∙ h)
        by (Violates Check) h = true≢false (sym (rules trees new_id).2 ∙ h)
        by (Violates PrimaryKey) h = h
        by (Violates Unique) h = h
        by (Violates ForeignKey) h = h
        by Mismatch h = true≢false h
        by NoRowid h = h
        by BadReference h = h
        by TooDeep h = h

    judged : (verdict : Option Refusal) → IsJudged table new_row verdict → (stop : Option Error) → Judged doing Abort (clause ∷ []) new_row trees verdict (Err stop) → Ends stop
    judged None fine stop h = met h.0 h.1 stop h.2
    judged (Some w) bad stop h = absurd (never_judged w bad)

    tried : (stop : Option Error) → Tries doing Abort (clause ∷ []) new_row trees (Err stop) → Ends stop
    tried stop (inl h) = subst Ends (let k : Some (error.SqliteFailure Rattle.sqlite.specs.declared.error.ErrorCode.TheVariants.NoRowid) ≡ stop = (let z = h.1 in cc) in k) (refl, inr (inl (ap (λ (r : Row). fits_i64 (id_in (rowid r))) (sym new_row_is) ∙ h.0)))
    tried stop (inr (verdict, fine, h)) = judged verdict fine stop h

    tries_each : (top : ℤ) (stop : Option Error) → TriesEach doing Abort (clause ∷ []) (source ∷ []) top (nothing trees) (Err stop) → Ends stop
    tries_each top stop h =
        let row = with_rowid (cond table.is_counted (Above top) Chosen) rows (cast_row table source) in
        elim (halted (Tries doing Abort (clause ∷ []) row trees) (λ one. TriesEach doing Abort (clause ∷ []) [] (higher top row) (joined (nothing trees) one)) stop h) [
          | inl tries ↦ tried stop (subst (λ b. Tries doing Abort (clause ∷ []) (with_rowid (cond b (Above top) Chosen) rows (cast_row table source)) trees (Err stop)) free.is_table.uncounted tries)
          | inr went ↦ absurd (let z = went.2 in cc)
        ]

    never_sources : (stop : Option Error) → Sourced None (record { schema = schema; trees = trees }) (stamped table params) (Values terms width) (Err stop) → ⊥
    never_sources None h = h
    never_sources (Some e) (inl h) = true≢false (sym typed ∙ h.1)
    never_sources (Some e) (inr h) = absurd (let k : false ≡ true = h.1 in cc)

    never_counts : (mid : Trees) (counter : Option Row) (top : ℤ) (stop : Option Error) → Counts doing mid counter top (Err stop) → ⊥
    never_counts mid counter top stop h =
        uncounted_stop {A = Trees} mid (CountsIn doing mid counter top (sequence schema) (Err stop)) (cond table.is_counted (is_lt (int_cmp (count_of counter) top)) false) stop
        (ap (λ b. cond b (is_lt (int_cmp (count_of counter) top)) false) free.is_table.uncounted) h

    inserts : (stop : Option Error) → InsertsOr doing Abort (clause ∷ []) (Values terms width) trees (Err stop) → Ends stop
    inserts stop h =
        let counts = λ (counter : Option Row) (done : Written × ℤ). Then (Counts doing done.0.trees counter done.1) (λ next. Gives {A = Written} (record done.0 { trees = next })) in
        elim (halted (Sourced None (record { schema = schema; trees = trees }) (stamped table params) (Values terms width))
        (λ answer. Then (Counter doing trees) (λ counter. Then (TriesEach doing Abort (clause ∷ []) answer (count_of counter) (nothing trees)) (counts counter))) stop h) [
          | inl sources ↦ absurd (never_sources stop sources)
          | inr answer ↦ elim (halted (Counter doing trees) (λ counter. Then (TriesEach doing Abort (clause ∷ []) answer.0 (count_of counter) (nothing trees)) (counts counter)) stop answer.2) [
            | inl counter ↦ absurd (uncounted_stop {A = Option Row} None _ table.is_counted stop free.is_table.uncounted counter)
            | inr counter ↦ elim (halted (TriesEach doing Abort (clause ∷ []) answer.0 (count_of counter.0) (nothing trees)) (counts counter.0) stop counter.2) [
              | inl tries ↦ tries_each (count_of counter.0) stop (subst (λ (rs : List Row). TriesEach doing Abort (clause ∷ []) rs (count_of counter.0) (nothing trees) (Err stop)) (answer.1.1 ∙ source_is) tries)
              | inr done ↦ elim (halted (Counts doing done.0.0.trees counter.0 done.0.1) (λ next. Gives {A = Written} (record done.0.0 { trees = next })) stop done.2) [
                | inl counted ↦ absurd (never_counts done.0.0.trees counter.0 done.0.1 stop counted)
                | inr gives ↦ absurd (let z = gives.2 in cc)
              ]
            ]
          ]
        ]

    upsert_halts : (stop : Option Error) → Does old.step_limit (mode_of old) params old.now (statement_of sql (understood schema sql)) None (InsertOr at Abort (Values terms width) (clause ∷ [])) (Err stop) → Ends stop
    upsert_halts stop h =
        let text = statement_of sql (understood schema sql) in
        let command = InsertOr at Abort (Values terms width) (clause ∷ []) in
        let placed : OnRows doing (mode_of old) None command trees (Err stop) =
        subst (λ (o : Option Table). AtPlace (λ t. OnRows (record doing { table = t }) (mode_of old) None command trees) o (Err stop)) free.is_table.there
        (subst (λ (p : Option ℕ × Schema). Does p.0 (mode_of old) params (record { schema = p.1; trees = trees }) text None command (Err stop)) (λ i. (unlimited i, has i)) h) in
        elim (halted (InsertsOr doing Abort (clause ∷ []) (Values terms width) trees) (Concludes doing (mode_of old) None) stop placed) [
          | inl stopped ↦ inserts stop stopped
          | inr went ↦ absurd (concluded doing (mode_of old) went.0 stop (λ among. no_references schema free.unreferred among went.0.trees) went.2)
        ]

    -- the table has no rowid for the entry, or it can't be stored
    pub upsert_refused : ((fault_of_error e ≡ Disk) × LacksRowid rows) ⊎ ((e ≡ error.SqliteFailure TooBig) × ((row : Row) × Put row × IsOversized schema table row))
    upsert_refused = elim (refused_by schema sql params (InsertOr at Abort (Values terms width) (clause ∷ [])) refl refl means one old new e has begun failed why) [
      | inl stopped ↦ inl (upsert_halts (Some e) stopped)
      | inr big ↦ inr (big.0, upsert_halts None big.1)
    ]
