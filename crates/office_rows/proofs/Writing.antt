-- What a DELETE, an INSERT and an UPDATE of a known meaning do to the entries of a table.
use Rattle.std.proofs.Common.{◌⊎◌, inl, inr, ◌≡◌, ◌≢◌, ℕ, ℤ, List, [], ◌∷◌, ◌++◌, map, Bool, true, false, not, cond, Option, None, Some, Ok, Err, Result, refl, sym, ap, subst, ◌∙◌}
use Rattle.std.specs.Prelude.{MatchBool, drop, filter, slice_get, length, ◌/◌, ◌&&◌}
use Rattle.sqlite.specs.Rows.{stamped}
use Rattle.sqlite.specs.Cast.{cast_row}
use Rattle.sqlite_rules.specs.Edit.{id_in, next_rowid, with_rowid, is_taken, are_fresh, put_all, numbered, without_all, taken_by}
use Rattle.sqlite.specs.Tree.{rowid}
use Rattle.sqlite_trees.specs.Tree.{put_row}
use Rattle.std.specs.List.{list_all, AllByRecursion}
use Rattle.std.specs.List.Sorted.{IsPermutation}
use Rattle.std.proofs.lemmas.List.Sorted.{IsPermutation-trans, IsPermutation-sym, IsPermutation-map, IsPermutation-append_left}
use Rattle.sqlite.specs.declared.types.Value.TheVariants.{Null, Int}
use Rattle.sqlite.specs.Order.{Row}
use Rattle.sqlite.specs.Term.{Term, col, eval_all, holds}
use Rattle.sqlite.specs.Command.TheVariants.{Insert, Update, Delete}
use Rattle.sqlite.specs.Source.TheVariants.{Values}
use Rattle.sqlite.specs.Rowids.TheVariants.{Chosen, Above, Given}
use Rattle.sqlite.specs.Edit.{edit_of}
use Rattle.sqlite.specs.Table.{Table}
use Rattle.sqlite.specs.Tree.{Trees}
use Rattle.sqlite.specs.Program.{overlay}
use Rattle.sqlite.specs.Effect.{Database, IsDatabase, value_rows}
use Rattle.sqlite.specs.Does.{Tally, Does, OnRows, AtPlace}
use Rattle.sqlite.specs.Rows.{Written, Task, Edited, count_of}
use Rattle.sqlite.specs.declared.error.Error.{Error}
use Rattle.sqlite.specs.Schema.{Schema}
use Rattle.sqlite.specs.State.{State, mode_of, Writes, Executes}
use Rattle.sqlite.specs.Listing.{understood}
use Rattle.sqlite.proofs.Callers.{statement_of, runs_as, one_step}
use Rattle.sqlite_schema.specs.declared.schema.Keys.{Keys}
use Rattle.sqlite_rules.specs.Action.{works}
use Rattle.sqlite_rules.specs.Calls.{ids_of}
use Rattle.sqlite_trees.proofs.ListLemmas.{map-map, filter-map, IsPermutation-filter}
use Rattle.office_rows.specs.Entries.{Keeps, row_of}
use Rattle.office_rows.proofs.Plain.{plain_query, Means}
use Rattle.office_rows.proofs.Reading.{answered_kept}
use Rattle.office_rows.proofs.Rowids.{taken_out, put_in, put_many, reordered}
use Rattle.office_rows.proofs.Permuted.{permuted_map, changed_if, changed_are}

-- a part that gave a value did not stop on the way
pub went : {B E R : Type 0} {b : B} {Stops : E → Type 0} → ((stop : E) × Stops stop × (Ok b ≡ Err stop)) ⊎ R → R
went (inl stopped) = absurd (let e = stopped.2 in cc)
went (inr on) = on

pub same_value : {B E : Type 0} {a b : B} → ◌≡◌ {A = Result B E} (Ok a) (Ok b) → a ≡ b
same_value e = cc

pub not_taken : (b : Bool) → (not b && true) ≡ true → b ≡ false
not_taken true e = absurd cc
not_taken false e = refl

pub not_counted : {A : Type 0} {a b : A} (P : Type 0) (counts test : Bool) → counts ≡ false → MatchBool (cond counts test false) P (◌≡◌ {A = Result A (Option Error)} (Ok a) (Ok b)) → a ≡ b
not_counted P true test e h = absurd cc
not_counted P false test e h = same_value h

-- the table of a schema that stands at this place, counts no rowids, is no part of another, and has no foreign key
pub record IsTableOf (schema : Schema) (at : ℕ) (table : Table) : Type 0 where
  pub there : slice_get schema.tables at ≡ Some table
  pub uncounted : table.is_counted ≡ false
  pub plainly : (trees : Trees) → overlay trees [] table.tree ≡ trees table.tree
  pub free : (gone news : List Row) (keys : Keys) → works schema keys 0 table.tree gone news ≡ []

-- of the rows of tables, only those of this tree are written, and the trees list the schema and obey it
pub record WritesIn (schema : Schema) (tree : ℕ) (old new : Database) : Type 0 where
  pub schema_is : new.schema ≡ schema
  pub sound : IsDatabase new
  pub tables : AllByRecursion (λ t. t.tree ≢ tree → new.trees t.tree ≡ old.trees t.tree) schema.tables

pub given_numbers : (news rows : List Row) → numbered Given rows news ≡ news
given_numbers [] rows = refl
given_numbers (r ∷ rs) rows = ap (λ l. r ∷ l) (given_numbers rs (put_row r rows))

-- rows that are changed as their table stores them
pub cast_all : {X : Type 0} (table : Table) (encode : X → Row) (change : X → X) → ((k : ℤ × X) → cast_row table (row_of encode (k.0, change k.1)) ≡ row_of encode (k.0, change k.1))
    → (ks : List (ℤ × X)) → map (λ s. cast_row table (drop 1 s)) (map (λ k. Int k.0 ∷ row_of encode (k.0, change k.1)) ks) ≡ map (row_of encode) (map (λ k. (k.0, change k.1)) ks)
cast_all table encode change casts [] = refl
cast_all table encode change casts (k ∷ ks) = λ i. casts k i ∷ cast_all table encode change casts ks i

module _ (schema : Schema) (at : ℕ) (table : Table) (is_table : IsTableOf schema at table) (sql : List ℕ) (params : Row) (old new : State) (count : ℕ) (has : old.now.schema ≡ schema)
    (ran : Executes sql params old new (Ok count)) where
  abbrev task : Task
  task = record { limit = old.step_limit; keys = (mode_of old).keys; schema = schema; table = table; params = params }

  module _ {X : Type 0} (encode : X → Row) (passes : X → Bool) (tests : List Term)
      (means : Means schema sql (Delete at (record { lets = []; body = plain_query (col 1 0 ∷ []) tests table.tree })))
      (tested : (k : ℤ × X) → list_all (holds (params ∷ row_of encode k ∷ [])) tests ≡ passes k.1) where
    pub deleted : (xs : List X) → Keeps encode (old.now.trees table.tree) xs
        → WritesIn schema table.tree old.now new.now × Keeps encode (new.now.trees table.tree) (filter (λ x. not (passes x)) xs)
    deleted xs keeps =
        let command = Delete at (record { lets = []; body = plain_query (col 1 0 ∷ []) tests table.tree }) in
        let text = statement_of sql (understood schema sql) in
        let w : Writes old new None command text params count = runs_as sql params old new schema has command means.is means.plain count ran in
        let placed = subst (λ (o : Option Table). AtPlace (λ t. OnRows (record task { table = t }) (mode_of old) None command old.now.trees) o (Ok (w.tally, new.now))) is_table.there
        (subst (λ s. Does old.step_limit (mode_of old) params (record old.now { schema = s }) text None command (Ok (w.tally, new.now))) has w.changed) in
        let done = went placed in
        let now : new.now ≡ record { schema = schema; trees = done.0.trees } = ap (λ (p : Tally × Database). p.1) (same_value (went (went done.2).2).2) in
        let asked = went done.1 in
        let wrote = went asked.2 in
        let trees : new.now.trees ≡ wrote.0 = ap (λ (d : Database). d.trees) now ∙ ap (λ (it : Written). it.trees) (same_value wrote.2) in
        let edit = edit_of old.now.trees table (ids_of asked.0) Given 0 [] in
        let applied = one_step schema _ old.now.trees wrote.0 edit (is_table.free (taken_by old.now.trees edit) edit.news (mode_of old).keys) wrote.1 in
        let over : Keeps encode (overlay old.now.trees [] table.tree) xs = record { kept = keeps.kept; rows_are = is_table.plainly old.now.trees ∙ keeps.rows_are; apart = keeps.apart; same = keeps.same } in
        let same = answered_kept encode (λ k. Int k.0 ∷ []) passes (col 1 0 ∷ []) tests params tested (λ k. refl) (overlay old.now.trees []) table.tree asked.0 xs (asked.1.answer Null) over in
        let ids : IsPermutation (map (λ (k : ℤ × X). k.0) (filter (λ k. passes k.1) keeps.kept)) (ids_of asked.0) =
        rw (map-map (λ (r : Row). id_in (rowid r)) (λ (k : ℤ × X). Int k.0 ∷ []) (filter (λ k. passes k.1) keeps.kept)) at (IsPermutation-map (λ (r : Row). id_in (rowid r)) _ _ same) in (
          record {
            schema_is = ap (λ (d : Database). d.schema) now;
            sound = w.sound;
            tables = subst (λ (ts : Trees). AllByRecursion (λ t. t.tree ≢ table.tree → ts t.tree ≡ old.now.trees t.tree) schema.tables) (sym trees) applied.tables;
          },
          subst (λ rows. Keeps encode rows (filter (λ x. not (passes x)) xs)) (sym (ap (λ (ts : Trees). ts table.tree) trees ∙ applied.rows))
              (taken_out encode passes (old.now.trees table.tree) xs (ids_of asked.0) keeps ids),
        )

  module _ {X : Type 0} (encode : X → Row) (passes : X → Bool) (change : X → X) (project tests : List Term)
      (means : Means schema sql (Update at (record { lets = []; body = plain_query (col 1 0 ∷ project) tests table.tree })))
      (tested : (k : ℤ × X) → list_all (holds (params ∷ row_of encode k ∷ [])) tests ≡ passes k.1)
      (changes : (k : ℤ × X) → eval_all project (params ∷ row_of encode k ∷ []) ≡ row_of encode (k.0, change k.1))
      (casts : (k : ℤ × X) → cast_row table (row_of encode (k.0, change k.1)) ≡ row_of encode (k.0, change k.1)) where
    abbrev renewed : ℤ × X → ℤ × X
    renewed k = (k.0, change k.1)

    abbrev source : ℤ × X → Row
    source k = Int k.0 ∷ row_of encode (renewed k)

    pub updated : (xs : List X) → Keeps encode (old.now.trees table.tree) xs
        → WritesIn schema table.tree old.now new.now × Keeps encode (new.now.trees table.tree) (map (changed_if passes change) xs)
    updated xs keeps =
        let command = Update at (record { lets = []; body = plain_query (col 1 0 ∷ project) tests table.tree }) in
        let text = statement_of sql (understood schema sql) in
        let w : Writes old new None command text params count = runs_as sql params old new schema has command means.is means.plain count ran in
        let placed = subst (λ (o : Option Table). AtPlace (λ t. OnRows (record task { table = t }) (mode_of old) None command old.now.trees) o (Ok (w.tally, new.now))) is_table.there
        (subst (λ s. Does old.step_limit (mode_of old) params (record old.now { schema = s }) text None command (Ok (w.tally, new.now))) has w.changed) in
        let done = went placed in
        let now : new.now ≡ record { schema = schema; trees = done.0.trees } = ap (λ (p : Tally × Database). p.1) (same_value (went (went done.2).2).2) in
        let asked = went done.1 in
        let wrote = went asked.2 in
        let trees : new.now.trees ≡ wrote.0 = ap (λ (d : Database). d.trees) now ∙ ap (λ (it : Written). it.trees) (same_value wrote.2) in
        let edit = edit_of old.now.trees table (ids_of asked.0) Given 1 asked.0 in
        let applied = one_step schema _ old.now.trees wrote.0 edit (is_table.free (taken_by old.now.trees edit) edit.news (mode_of old).keys) wrote.1 in
        let over : Keeps encode (overlay old.now.trees [] table.tree) xs = record { kept = keeps.kept; rows_are = is_table.plainly old.now.trees ∙ keeps.rows_are; apart = keeps.apart; same = keeps.same } in
        let same = answered_kept encode source passes (col 1 0 ∷ project) tests params tested (λ k. ap (λ r. Int k.0 ∷ r) (changes k)) (overlay old.now.trees []) table.tree asked.0 xs (asked.1.answer Null) over in
        let ids : IsPermutation (map (λ (k : ℤ × X). k.0) (filter (λ k. passes k.1) keeps.kept)) (ids_of asked.0) =
        rw (map-map (λ (r : Row). id_in (rowid r)) source (filter (λ k. passes k.1) keeps.kept)) at (IsPermutation-map (λ (r : Row). id_in (rowid r)) _ _ same) in
        let left : List Row = without_all (old.now.trees table.tree) (ids_of asked.0) in
        let rest = taken_out encode passes (old.now.trees table.tree) xs (ids_of asked.0) keeps ids in
        let from = permuted_map source (filter (λ k. passes k.1) keeps.kept) asked.0 same in
        let news : edit.news ≡ map (row_of encode) (map renewed from.from) =
        given_numbers (map (λ s. cast_row table (drop 1 s)) asked.0) left ∙ ap (map (λ s. cast_row table (drop 1 s))) from.is ∙ cast_all table encode change casts from.from in
        let back = put_many encode (map renewed from.from) left _ rest (subst (λ ns. are_fresh left ns ≡ true) news applied.fresh) in
        let values : map (λ (k : ℤ × X). k.1) (map renewed from.from) ≡ map change (map (λ (k : ℤ × X). k.1) from.from) = map-map _ _ from.from ∙ sym (map-map _ _ from.from) in
        let passed : IsPermutation (map (λ (k : ℤ × X). k.1) from.from) (filter passes xs) =
        IsPermutation-trans _ _ _ (IsPermutation-sym _ _ (IsPermutation-map (λ (k : ℤ × X). k.1) _ _ from.same))
        (subst (λ l. IsPermutation l (filter passes xs)) (filter-map passes (λ (k : ℤ × X). k.1) keeps.kept) (IsPermutation-filter passes _ _ keeps.same)) in
        let whole : IsPermutation (map (λ (k : ℤ × X). k.1) (map renewed from.from) ++ filter (λ x. not (passes x)) xs) (map (changed_if passes change) xs) =
        IsPermutation-trans _ _ _
        (subst (λ l. IsPermutation (l ++ filter (λ x. not (passes x)) xs) (map change (filter passes xs) ++ filter (λ x. not (passes x)) xs)) (sym values) (IsPermutation-append_left (filter (λ x. not (passes x)) xs) _ _ (IsPermutation-map change _ _ passed)))
        (changed_are passes change xs) in (
          record {
            schema_is = ap (λ (d : Database). d.schema) now;
            sound = w.sound;
            tables = subst (λ (ts : Trees). AllByRecursion (λ t. t.tree ≢ table.tree → ts t.tree ≡ old.now.trees t.tree) schema.tables) (sym trees) applied.tables;
          },
          subst (λ rows. Keeps encode rows (map (changed_if passes change) xs)) (sym (ap (λ (ts : Trees). ts table.tree) trees ∙ subst (λ ns. wrote.0 table.tree ≡ put_all left ns) news applied.rows))
              (reordered encode _ _ _ back whole),
        )

  module _ (terms : List Term) (width : ℕ) (source : Row) (means : Means schema sql (Insert at (Values terms width)))
      (source_is : value_rows (stamped table params) width (length terms / width) terms ≡ source ∷ []) where
    -- the row that is put in, under the rowid that it gives or the next one
    abbrev pub given_row : Row
    given_row = with_rowid Chosen (old.now.trees table.tree) (cast_row table source)

    pub record Inserts : Type 0 where
      pub writes : WritesIn schema table.tree old.now new.now
      pub free : is_taken (old.now.trees table.tree) given_row ≡ false
      pub rows : new.now.trees table.tree ≡ put_row given_row (old.now.trees table.tree)

    pub inserts : Inserts
    inserts =
        let command = Insert at (Values terms width) in
        let text = statement_of sql (understood schema sql) in
        let w : Writes old new None command text params count = runs_as sql params old new schema has command means.is means.plain count ran in
        let placed = subst (λ (o : Option Table). AtPlace (λ t. OnRows (record task { table = t }) (mode_of old) None command old.now.trees) o (Ok (w.tally, new.now))) is_table.there
        (subst (λ s. Does old.step_limit (mode_of old) params (record old.now { schema = s }) text None command (Ok (w.tally, new.now))) has w.changed) in
        let done = went placed in
        let now : new.now ≡ record { schema = schema; trees = done.0.trees } = ap (λ (p : Tally × Database). p.1) (same_value (went (went done.2).2).2) in
        let asked = went done.1 in
        let counted = went asked.2 in
        let wrote = went counted.2 in
        let tallied = went wrote.2 in
        let still : tallied.0 ≡ wrote.0 = not_counted _ table.is_counted _ is_table.uncounted tallied.1 in
        let trees : new.now.trees ≡ wrote.0 = ap (λ (d : Database). d.trees) now ∙ ap (λ (it : Written). it.trees) (same_value tallied.2) ∙ still in
        let edit = edit_of old.now.trees table [] Chosen 0 asked.0 in
        let applied = one_step schema _ old.now.trees wrote.0 edit (is_table.free (taken_by old.now.trees edit) edit.news (mode_of old).keys)
        (subst (λ b. Edited schema (mode_of old).keys old.now.trees (edit_of old.now.trees table [] (cond b (Above (count_of counted.0)) Chosen) 0 asked.0) (Ok wrote.0)) is_table.uncounted wrote.1) in
        let rows : asked.0 ≡ source ∷ [] = asked.1.1 ∙ source_is in
        let news : (edit_of old.now.trees table [] Chosen 0 asked.0).news ≡ given_row ∷ [] =
        ap (λ rs. numbered Chosen (old.now.trees table.tree) (map (λ s. cast_row table (drop 0 s)) rs)) rows in
        record {
          writes = record {
            schema_is = ap (λ (d : Database). d.schema) now;
            sound = w.sound;
            tables = subst (λ (ts : Trees). AllByRecursion (λ t. t.tree ≢ table.tree → ts t.tree ≡ old.now.trees t.tree) schema.tables) (sym trees) applied.tables;
          };
          free = not_taken _ (subst (λ ns. are_fresh (old.now.trees table.tree) ns ≡ true) news applied.fresh);
          rows = ap (λ (ts : Trees). ts table.tree) trees ∙ subst (λ ns. wrote.0 table.tree ≡ put_all (old.now.trees table.tree) ns) news applied.rows;
        }

    -- a row that gives no rowid
    module _ {X : Type 0} (encode : X → Row) (x : X) (cast_is : cast_row table source ≡ Null ∷ encode x) where
      pub inserted : (xs : List X) → Keeps encode (old.now.trees table.tree) xs → WritesIn schema table.tree old.now new.now × Keeps encode (new.now.trees table.tree) (x ∷ xs)
      inserted xs keeps =
          let id = next_rowid (old.now.trees table.tree) in
          let row : given_row ≡ row_of encode (id, x) = ap (with_rowid Chosen (old.now.trees table.tree)) cast_is in
          let free : is_taken (old.now.trees table.tree) (row_of encode (id, x)) ≡ false = ap (is_taken (old.now.trees table.tree)) (sym row) ∙ inserts.free in
          (inserts.writes, subst (λ rows. Keeps encode rows (x ∷ xs)) (sym (inserts.rows ∙ ap (λ r. put_row r (old.now.trees table.tree)) row)) (put_in encode (id, x) (old.now.trees table.tree) xs keeps free))
