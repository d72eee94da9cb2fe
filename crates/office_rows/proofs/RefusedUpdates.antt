-- Why an UPDATE of a known meaning is refused: never for a key.
use Rattle.std.proofs.Common.{inl, inr, ◌⊎◌, ◌≡◌, ℕ, ℤ, List, [], ◌∷◌, map, length, Bool, true, false, not, Option, None, Some, Err, IsTrue, refl, sym, ap, subst, ◌∙◌, true≢false}
use Rattle.std.specs.Prelude.{drop, filter, nat_lt, ◌&&◌}
use Rattle.std.specs.List.{list_all}
use Rattle.std.specs.List.Sorted.{IsPermutation}
use Rattle.std.specs.Ordering.{is_eq}
use Rattle.std.proofs.lemmas.Bool.{and_from, or_right, not-true, both_ways}
use Rattle.std.proofs.lemmas.List.Sorted.{IsPermutation-map, IsPermutation-sym}
use Rattle.sqlite.specs.Cast.{cast_row}
use Rattle.sqlite.specs.Command.TheVariants.{Select, Update}
use Rattle.sqlite.specs.Does.{Does, AtPlace, OnRows, Concludes}
use Rattle.sqlite.specs.Edit.{Edit, edit_of}
use Rattle.sqlite.specs.Effect.{IsDatabase}
use Rattle.sqlite.specs.Listing.{understood}
use Rattle.sqlite.specs.Ops.{is_true, from_truth, binary}
use Rattle.sqlite.specs.Order.{Row}
use Rattle.sqlite.specs.Program.{overlay}
use Rattle.sqlite.specs.Rowids.TheVariants.{Given}
use Rattle.sqlite.specs.Rows.{Gives, Then, Queried, Edited, Updates, Written}
use Rattle.sqlite.specs.Schema.{Schema}
use Rattle.sqlite.specs.State.{State, ExecutesInside, IsUnchanged, mode_of}
use Rattle.sqlite.specs.Table.{Table}
use Rattle.sqlite.specs.Term.{Term, col, eval_all, holds}
use Rattle.sqlite.specs.Tree.{Trees, rowid}
use Rattle.sqlite.specs.declared.types.Value.TheVariants.{Null, Int}
use Rattle.sqlite.specs.declared.error.Error.{Error}
use Rattle.sqlite.specs.declared.error.Error.TheVariants as error
use Rattle.sqlite.specs.declared.error.ErrorCode.TheVariants.{TooBig}
use Rattle.sqlite.proofs.Callers.{statement_of}
use Rattle.sqlite_rules.specs.Calls.{ids_of}
use Rattle.sqlite_rules.specs.Edit.{IsRefused, IsOversized, is_taken, are_fresh, put_all, taken_by, without_all, id_in}
use Rattle.sqlite_rules.specs.Lists.{Has}
use Rattle.sqlite_rules.specs.declared.error.Refusal.{Refusal}
use Rattle.sqlite_rules.specs.declared.error.Refusal.TheVariants.{Violates, Mismatch, NoRowid, BadReference, TooDeep}
use Rattle.sqlite_rules.proofs.KeyLemmas.{agree_back}
use Rattle.sqlite_rules.proofs.ListLemmas.{test_has, some_has, some_from, fails_has, fails_from, has_filtered}
use Rattle.sqlite_rules.proofs.RuleLemmas.{keeps_at}
use Rattle.sqlite_rules.proofs.TableLemmas.{put_all_has, without_all_has}
use Rattle.sqlite_schema.specs.Rules.{agree, differ, guards, passes}
use Rattle.sqlite_schema.specs.declared.program.Program.{Program}
use Rattle.sqlite_schema.specs.declared.schema.Constraint.TheVariants.{Datatype, NotNull, Check, PrimaryKey, Unique, ForeignKey}
use Rattle.sqlite_schema.specs.declared.schema.Index.{Index}
use Rattle.sqlite_sql.specs.Ops.{fits_i64}
use Rattle.sqlite_trees.specs.Tree.{has_rowid, without_rowid}
use Rattle.sqlite_trees.specs.View.{is_int}
use Rattle.sqlite_trees.proofs.ListLemmas.{map-map, ascending-filter, ascending-map}
use Rattle.sqlite_value.specs.Order.{value_cmp}
use Rattle.office_words.specs.declared.fault.Fault.TheVariants.{Disk}
use Rattle.office_rows.specs.Entries.{Keeps as KeepsEntries, row_of}
use Rattle.office_rows.specs.Faults.{fault_of_error}
use Rattle.office_rows.specs.Refusals.{HasLongRowid}
use Rattle.office_rows.proofs.Halting.{IsOne, IsFree, halted, never_asks, no_references, concluded, edit_halted, unique_with, fresh_from, refused_by}
use Rattle.office_rows.proofs.InOrder.{ascending_permuted}
use Rattle.office_rows.proofs.Permuted.{permuted_map}
use Rattle.office_rows.proofs.Plain.{plain_query, Means}
use Rattle.office_rows.proofs.Reading.{answered_kept}
use Rattle.office_rows.proofs.Refused.{IsRight, Stops, edit_is_disk, referred, differ_itself, keeps_unique, task}
use Rattle.office_rows.proofs.Rowids.{has_mapped, mapped_has, has_permuted, one_each, symmetric}
use Rattle.office_rows.proofs.Stored.{not_true}
use Rattle.office_rows.proofs.Sure.{IsSureQuery}
use Rattle.office_rows.proofs.Writing.{given_numbers, cast_all}

-- no row is left under a rowid that was taken out
pub gone_away : (ids : List ℤ) (rows : List Row) (r : Row) (id : ℤ) → Has (without_all rows ids) r → Has ids id → has_rowid id r ≡ false
gone_away [] rows r id h none = absurd none
gone_away (i ∷ ids) rows r id h (inl is) =
    let kept = has_filtered (λ (x : Row). not (has_rowid i x)) rows r (without_all_has ids (without_rowid i rows) r h) in
    not_true (has_rowid id r) (λ same. true≢false (sym kept.1 ∙ ap not (ap (λ (z : ℤ). has_rowid z r) (sym is) ∙ same)))
gone_away (i ∷ ids) rows r id h (inr more) = gone_away ids (without_rowid i rows) r id h more

differ_by : (o : Rattle.std.specs.declared.cmp.Ordering.Ordering) → is_eq o ≡ false → is_true (from_truth (Some (Rattle.std.specs.Ordering.is_ne o))) ≡ true
differ_by Rattle.std.specs.declared.cmp.Ordering.TheVariants.Less h = refl
differ_by Rattle.std.specs.declared.cmp.Ordering.TheVariants.Equal h = absurd (true≢false h)
differ_by Rattle.std.specs.declared.cmp.Ordering.TheVariants.Greater h = refl

pub differ_other : (a b : ℤ) → is_eq (value_cmp (Int a) (Int b)) ≡ false → differ (Int a) (Int b) ≡ true
unfolding binary
differ_other a b other = differ_by (value_cmp (Int a) (Int b)) other

module _ (schema : Schema) (at : ℕ) (table : Table) (free : IsFree schema at table) (sql : List ℕ) (params : Row) (one : IsOne schema sql params) (old new : State) (e : Error) (has : old.now.schema ≡ schema)
    (sound : IsDatabase old.now) (begun : IsTrue old.in_transaction) (unlimited : old.step_limit ≡ None) (failed : ExecutesInside 0 sql params old new (Err e))
    (why : IsUnchanged old new ⊎ (e ≡ error.SqliteFailure TooBig)) where
  abbrev trees : Trees
  trees = old.now.trees

  abbrev rows : List Row
  rows = trees table.tree

  module _ {X : Type 0} (encode : X → Row) (passing : X → Bool) (change : X → X) (project tests : List Term)
      (means : Means schema sql (Update at (record { lets = []; body = plain_query (col 1 0 ∷ project) tests table.tree })))
      (sure : IsSureQuery schema params (Select (record { lets = []; body = plain_query (col 1 0 ∷ project) tests table.tree }) []))
      (tested : (k : ℤ × X) → list_all (holds (params ∷ row_of encode k ∷ [])) tests ≡ passing k.1)
      (changes : (k : ℤ × X) → eval_all project (params ∷ row_of encode k ∷ []) ≡ row_of encode (k.0, change k.1))
      (casts : (k : ℤ × X) → cast_row table (row_of encode (k.0, change k.1)) ≡ row_of encode (k.0, change k.1))
      (rules : (db : Trees) (k : ℤ × X) → IsRight schema db table (row_of encode k))
      (key : (i : Index) → Has schema.indexes i → guards i table ≡ true → (k : ℤ × X) (r : Row) → agree i.order i.columns r i.columns (row_of encode (k.0, change k.1)) ≡ agree i.order i.columns r i.columns (row_of encode k))
      (xs : List X) (entries : KeepsEntries encode rows xs) where
    abbrev query : Program
    query = record { lets = []; body = plain_query (col 1 0 ∷ project) tests table.tree }

    abbrev pub renewed : ℤ × X → ℤ × X
    renewed k = (k.0, change k.1)

    abbrev source : ℤ × X → Row
    source k = Int k.0 ∷ row_of encode (renewed k)

    abbrev passed : List (ℤ × X)
    passed = filter (λ (k : ℤ × X). passing k.1) entries.kept

    there : (k : ℤ × X) → Has entries.kept k → Has rows (row_of encode k)
    there k h = subst (λ (rs : List Row). Has rs (row_of encode k)) (sym entries.rows_are) (mapped_has (row_of encode) entries.kept k h)

    back : (r : Row) → Has rows r → (k : ℤ × X) × Has entries.kept k × (r ≡ row_of encode k)
    back r h = has_mapped (row_of encode) entries.kept r (subst (λ (rs : List Row). Has rs r) entries.rows_are h)

    -- two entries of the table have no key in common
    apart : (i : Index) → Has schema.indexes i → guards i table ≡ true → (k j : ℤ × X) → Has entries.kept k → Has entries.kept j → is_eq (value_cmp (Int j.0) (Int k.0)) ≡ false
        → agree i.order i.columns (row_of encode j) i.columns (row_of encode k) ≡ true → ⊥
    apart i known on k j has_k has_j other same =
        let unique = keeps_unique schema at table free sql params one old new e has sound begun unlimited failed why in
        both_ways _ (not-true _ (test_has _ schema.indexes i (keeps_at Unique schema trees table (row_of encode k) unique free.listed (there k has_k)) known))
        (and_from _ _ on (some_from (λ (r : Row). agree i.order i.columns r i.columns (row_of encode k) && differ (rowid r) (Int k.0)) rows (row_of encode j) (there j has_j) (and_from _ _ same (differ_other j.0 k.0 other))))

    -- ---- the rows that are changed, in any order

    module _ (from : List (ℤ × X)) (same : IsPermutation passed from) (gone : List ℤ) (ids : IsPermutation (map (λ (k : ℤ × X). k.0) passed) gone) where
      abbrev news : List Row
      news = map (row_of encode) (map renewed from)

      abbrev left : List Row
      left = without_all rows gone

      origin : (n : Row) → Has news n → (k : ℤ × X) × Has entries.kept k × Has passed k × (n ≡ row_of encode (renewed k))
      origin n h =
          let j = has_mapped (row_of encode) (map renewed from) n h in
          let k = has_mapped renewed from j.0 j.1 in
          let was = has_permuted from passed k.0 (IsPermutation-sym _ _ same) k.1 in
          (k.0, (has_filtered (λ (k : ℤ × X). passing k.1) entries.kept k.0 was).0, was, j.2 ∙ ap (row_of encode) k.2)

      all_right : (p : Row → Bool) → ((k : ℤ × X) → p (row_of encode k) ≡ true) → (n : Row) → Has news n → p n ≡ true
      all_right p each n h = let k = origin n h in ap p k.3 ∙ each (renewed k.0)

      never : (p : Row → Bool) → ((k : ℤ × X) → p (row_of encode k) ≡ true) → list_all p news ≡ false → ⊥
      never p each h = let n = fails_has p news h in true≢false (sym (all_right p each n.0 n.1) ∙ n.2)

      -- what is left has another rowid
      others : (k : ℤ × X) → Has passed k → (r : Row) → Has left r → has_rowid k.0 r ≡ false
      others k was r h = gone_away gone rows r k.0 h (has_permuted _ _ k.0 ids (mapped_has (λ (k : ℤ × X). k.0) passed k was))

      unused : (n : Row) → Has news n → is_taken left n ≡ false
      unused n h =
          let k = origin n h in
          not_true (is_taken left n) (λ taken.
          let r = some_has (λ (x : Row). is_eq (value_cmp (rowid x) (rowid n))) left taken in
          true≢false (sym r.2 ∙ ap (λ (x : Row). is_eq (value_cmp (rowid r.0) (rowid x))) k.3 ∙ others k.0 k.2 r.0 r.1))

      fresh : are_fresh left news ≡ true
      fresh =
          fresh_from news left unused
          (ascending-map (λ (a b : Row). is_eq (value_cmp (rowid a) (rowid b)) ≡ false) (row_of encode) (map renewed from)
          (ascending-map (λ (a b : ℤ × X). is_eq (value_cmp (Int a.0) (Int b.0)) ≡ false) renewed from
          (ascending_permuted (λ (a b : ℤ × X). is_eq (value_cmp (Int a.0) (Int b.0)) ≡ false) (λ a b other. symmetric b.0 a.0 ∙ other) passed from same
          (ascending-filter (λ (a b : ℤ × X). is_eq (value_cmp (Int a.0) (Int b.0)) ≡ false) (λ (k : ℤ × X). passing k.1) entries.kept entries.apart))))

      alone : (i : Index) → Has schema.indexes i → guards i table ≡ true → (n r : Row) → Has news n → Has left r → agree i.order i.columns r i.columns n ≡ true → ⊥
      alone i known on n r new old agrees =
          let k = origin n new in
          let j = back r (without_all_has gone rows r old) in
          let other : is_eq (value_cmp (Int j.0.0) (Int k.0.0)) ≡ false = ap (λ (x : Row). is_eq (value_cmp (rowid x) (Int k.0.0))) (sym j.2) ∙ others k.0 k.2 r old in
          apart i known on k.0 j.0 k.1 j.1 other
          (sym (key i known on k.0 (row_of encode j.0)) ∙ (λ t. agree i.order i.columns (sym j.2 t) i.columns (sym k.3 t)) ∙ agrees)

      among : (i : Index) → Has schema.indexes i → guards i table ≡ true → (n m : Row) → Has news n → Has news m → agree i.order i.columns m i.columns n ≡ true → differ (rowid m) (rowid n) ≡ false
      among i known on n m new also agrees =
          let k = origin n new in
          let j = origin m also in
          (λ t. differ (rowid (j.3 t)) (rowid (k.3 t)))
          ∙ by (is_eq (value_cmp (Int j.0.0) (Int k.0.0))) k.0 j.0 k.1 j.1 ((λ t. agree i.order i.columns (sym j.3 t) i.columns (sym k.3 t)) ∙ agrees) refl
        where
          by : (b : Bool) (k j : ℤ × X) → Has entries.kept k → Has entries.kept j → agree i.order i.columns (row_of encode (renewed j)) i.columns (row_of encode (renewed k)) ≡ true
              → is_eq (value_cmp (Int j.0) (Int k.0)) ≡ b → differ (Int j.0) (Int k.0) ≡ false
          by true k j has_k has_j both tie =
              let is = one_each entries.kept entries.apart j k has_j has_k tie in (λ t. differ (Int (is t).0) (Int k.0)) ∙ differ_itself k.0
          by false k j has_k has_j both other =
              let first = sym (key i known on k (row_of encode (renewed j))) ∙ both in
              let turned = agree_back i.order i.columns i.columns (row_of encode (renewed j)) (row_of encode k) first in
              let last = sym (key i known on j (row_of encode k)) ∙ turned in
              absurd (apart i known on j k has_j has_k (symmetric k.0 j.0 ∙ other) last)

      refused : (w : Refusal) → IsRefused schema (mode_of old).keys trees (record { table = table; gone = gone; news = news }) w → HasLongRowid rows
      refused (Violates Datatype) h = absurd (never (passes Datatype schema trees table) (λ k. (rules trees k).0) h)
      refused (Violates NotNull) h = absurd (never (passes NotNull schema trees table) (λ k. (rules trees k).1) h)
      refused (Violates Check) h = absurd (never (passes Check schema trees table) (λ k. (rules trees k).2) h)
      refused (Violates PrimaryKey) h = absurd (true≢false (sym fresh ∙ h))
      refused (Violates Unique) h =
          absurd (h (unique_with schema at table free trees (keeps_unique schema at table free sql params one old new e has sound begun unlimited failed why) (put_all left news) news left
          (put_all_has news left) (λ r old. without_all_has gone rows r old) alone among))
      refused (Violates ForeignKey) h = absurd h
      refused Mismatch h = absurd (never (λ r. is_int (rowid r)) (λ k. refl) h)
      refused NoRowid h =
          let n = fails_has (λ (r : Row). fits_i64 (id_in (rowid r))) news h in
          let k = origin n.0 n.1 in
          fails_from (λ (r : Row). fits_i64 (id_in (rowid r))) rows (row_of encode k.0) (there k.0 k.1) (ap (λ (r : Row). fits_i64 (id_in (rowid r))) (sym k.3) ∙ n.2)
      refused BadReference h = absurd (true≢false (sym (or_right false _ (referred schema at table free (nat_lt 0 (length news)) (nat_lt 0 (length gone)))) ∙ h))
      refused TooDeep h = absurd h

      -- a row that is changed
      abbrev IsChanged : Row → Type 0
      IsChanged row = (k : ℤ × X) × Has entries.kept k × (row ≡ row_of encode (renewed k))

      edit_stops : (stop : Option Error) → Edited schema (mode_of old).keys trees (record { table = table; gone = gone; news = news }) (Err stop) → Stops schema table (HasLongRowid rows) IsChanged stop
      edit_stops stop h =
          let edit : Edit = record { table = table; gone = gone; news = news } in
          elim (edit_halted schema (mode_of old).keys trees edit (free.is_table.free (taken_by trees edit) news (mode_of old).keys) stop h) [
            | inl no_edit ↦ subst (Stops schema table (HasLongRowid rows) IsChanged) (sym no_edit.2) (edit_is_disk no_edit.0, refused no_edit.0 no_edit.1)
            | inr big ↦ let k = origin big.0 big.1 in subst (Stops schema table (HasLongRowid rows) IsChanged) (sym big.3) (big.0, (k.0, k.1, k.3), big.2)
          ]

    -- one of the rows, changed
    abbrev pub Changed : Row → Type 0
    Changed row = (k : ℤ × X) × Has entries.kept k × (row ≡ row_of encode (renewed k))

    abbrev edit_in : List Row → Edit
    edit_in answer = edit_of trees table (ids_of answer) Given 1 answer

    updates : (stop : Option Error) → Updates (task schema at table free sql params one old new e has sound begun unlimited failed why) query params trees (Err stop) → Stops schema table (HasLongRowid rows) Changed stop
    updates stop h =
        elim (halted (Queried None (record { schema = schema; trees = trees }) query params)
        (λ answer. Then (Edited schema (mode_of old).keys trees (edit_in answer)) (λ next. Gives {A = Written} (record { trees = next; rows = (edit_in answer).news; last = None }))) stop h) [
          | inl asks ↦ absurd (never_asks schema (record { schema = schema; trees = trees }) query params stop refl sure asks)
          | inr asked ↦ elim (halted (Edited schema (mode_of old).keys trees (edit_in asked.0)) (λ next. Gives {A = Written} (record { trees = next; rows = (edit_in asked.0).news; last = None })) stop asked.2) [
            | inl edited ↦
                let over : KeepsEntries encode (overlay trees [] table.tree) xs = record { kept = entries.kept; rows_are = free.is_table.plainly trees ∙ entries.rows_are; apart = entries.apart; same = entries.same } in
                let answer = answered_kept encode source passing (col 1 0 ∷ project) tests params tested (λ k. ap (λ r. Int k.0 ∷ r) (changes k)) (overlay trees []) table.tree asked.0 xs (asked.1.answer Null) over in
                let ids : IsPermutation (map (λ (k : ℤ × X). k.0) passed) (ids_of asked.0) =
                rw (map-map (λ (r : Row). id_in (rowid r)) source passed) at (IsPermutation-map (λ (r : Row). id_in (rowid r)) _ _ answer) in
                let from = permuted_map source passed asked.0 answer in
                let are : (edit_in asked.0).news ≡ map (row_of encode) (map renewed from.from) =
                given_numbers (map (λ s. cast_row table (drop 1 s)) asked.0) (without_all rows (ids_of asked.0)) ∙ ap (map (λ s. cast_row table (drop 1 s))) from.is ∙ cast_all table encode change casts from.from in
                edit_stops from.from from.same (ids_of asked.0) ids stop
                (subst (λ (ns : List Row). Edited schema (mode_of old).keys trees (record { table = table; gone = ids_of asked.0; news = ns }) (Err stop)) are edited)
            | inr gives ↦ absurd (let z = gives.2 in cc)
          ]
        ]

    update_halts : (stop : Option Error) → Does old.step_limit (mode_of old) params old.now (statement_of sql (understood schema sql)) None (Update at query) (Err stop) → Stops schema table (HasLongRowid rows) Changed stop
    update_halts stop h =
        let text = statement_of sql (understood schema sql) in
        let doing = task schema at table free sql params one old new e has sound begun unlimited failed why in
        let placed : OnRows doing (mode_of old) None (Update at query) trees (Err stop) =
        subst (λ (o : Option Table). AtPlace (λ t. OnRows (record doing { table = t }) (mode_of old) None (Update at query) trees) o (Err stop)) free.is_table.there
        (subst (λ (p : Option ℕ × Schema). Does p.0 (mode_of old) params (record { schema = p.1; trees = trees }) text None (Update at query) (Err stop)) (λ i. (unlimited i, has i)) h) in
        elim (halted (Updates doing query params trees) (Concludes doing (mode_of old) None) stop placed) [
          | inl stopped ↦ updates stop stopped
          | inr went ↦ absurd (concluded doing (mode_of old) went.0 stop (λ among. no_references schema free.unreferred among went.0.trees) went.2)
        ]

    -- a row has a rowid of more than 64 bits, or can't be stored once it is changed
    pub update_refused : ((fault_of_error e ≡ Disk) × HasLongRowid rows) ⊎ ((e ≡ error.SqliteFailure TooBig) × ((row : Row) × Changed row × IsOversized schema table row))
    update_refused = elim (refused_by schema sql params (Update at query) refl refl means one old new e has begun failed why) [
      | inl stopped ↦ inl (update_halts (Some e) stopped)
      | inr big ↦ inr (big.0, update_halts None big.1)
    ]
