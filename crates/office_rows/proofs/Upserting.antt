-- What an upsert of a known meaning does to the entries of a table: it puts one in, or changes the one at its key.
use Rattle.std.proofs.Common.{inl, inr, ◌≡◌, ◌≢◌, ℕ, ℤ, List, [], ◌∷◌, ◌++◌, map, Bool, true, false, not, cond, Option, None, Some, Ok, refl, sym, ap, subst, ◌∙◌, true≢false}
use Rattle.std.specs.Prelude.{filter, find, length, ◌/◌}
use Rattle.std.specs.List.{list_all, AllByRecursion}
use Rattle.std.specs.Bool.{Decides}
use Rattle.std.specs.Ordering.{is_eq}
use Rattle.std.specs.List.Sorted.{IsPermutation}
use Rattle.std.proofs.lemmas.List.Sorted.{IsPermutation-refl, IsPermutation-sym}
use Rattle.sqlite.specs.declared.types.Value.TheVariants.{Null, Int}
use Rattle.sqlite.specs.Order.{Row}
use Rattle.sqlite.specs.Schema.{Schema}
use Rattle.sqlite.specs.Table.{Table}
use Rattle.sqlite.specs.Term.{Term, col, eval_all, holds}
use Rattle.sqlite.specs.Cast.{cast_row}
use Rattle.sqlite.specs.Command.TheVariants.{InsertOr}
use Rattle.sqlite.specs.Source.TheVariants.{Values}
use Rattle.sqlite.specs.Rowids.TheVariants.{Chosen, Above, Given}
use Rattle.sqlite.specs.Edit.{Edit, edit_of}
use Rattle.sqlite.specs.Tree.{Trees, rowid}
use Rattle.sqlite.specs.Program.{overlay}
use Rattle.sqlite.specs.Effect.{Database, IsDatabase, value_rows}
use Rattle.sqlite.specs.Does.{Tally, Does, OnRows, AtPlace}
use Rattle.sqlite.specs.Rows.{Written, Task, Edited, Puts, Clears, Meets, Updates, Upserts, Judged, Tries, TriesEach, count_of, nothing, shown, stamped}
use Rattle.sqlite.specs.State.{State, mode_of, Writes, Executes}
use Rattle.sqlite.specs.Listing.{understood}
use Rattle.sqlite.proofs.Callers.{statement_of, runs_as, one_step, one_permutation}
use Rattle.sqlite_schema.specs.declared.command.Conflict.TheVariants.{Abort}
use Rattle.sqlite_schema.specs.declared.command.Upsert.{Upsert}
use Rattle.sqlite_schema.specs.declared.program.Program.{Program}
use Rattle.sqlite_rules.specs.declared.error.Refusal.{Refusal}
use Rattle.sqlite_rules.specs.Calls.{ids_of}
use Rattle.sqlite_rules.specs.Edit.{are_fresh, next_rowid, put_all, taken_by, with_rowid, without_all}
use Rattle.sqlite_rules.specs.Keys.{AreConflicts, conflicts}
use Rattle.sqlite_rules.specs.Lists.{Has}
use Rattle.sqlite_rules.proofs.ListLemmas.{all_has, all_from}
use Rattle.sqlite_trees.specs.Tree.{IsAscending, put_row}
use Rattle.sqlite_trees.proofs.ListLemmas.{all-filter, ascending_from_map, filter_none}
use Rattle.sqlite_value.specs.Order.{value_cmp}
use Rattle.office_rows.specs.Entries.{Keeps, Stores, row_of, AreApart, HaveOwnKeys}
use Rattle.office_rows.proofs.InOrder.{ascending_permuted}
use Rattle.office_rows.proofs.Plain.{plain_query, Means}
use Rattle.office_rows.proofs.Reading.{answered_pairs}
use Rattle.office_rows.proofs.Rowids.{has_mapped, mapped_has, has_permuted, one_each, put_in, reflexive, taken_out}
use Rattle.office_rows.proofs.Steps.{After}
use Rattle.office_rows.proofs.Stored.{not_true, find_none, is_at, same_self, find_without, own-filter, own_more}
use Rattle.office_rows.proofs.Writing.{IsTableOf, went, same_value, not_taken, not_counted}

-- ---- the one entry that passes

-- of entries under rowids of their own, the only one that passes
pub only_one : {X : Type 0} (p : ℤ × X → Bool) (kept : List (ℤ × X)) (j : ℤ × X) → AreApart kept → Has kept j → p j ≡ true → ((k : ℤ × X) → Has kept k → p k ≡ true → k ≡ j) → filter p kept ≡ j ∷ []
only_one p [] j apart here passed only = absurd here
only_one {X} p (k ∷ kept) j apart (inl is) passed only = rw (ap p (sym is) ∙ passed, filter_none p kept (all_from _ kept none)) (ap (λ y. y ∷ []) (sym is))
  where
    none : (h : ℤ × X) → Has kept h → p h ≡ false
    none h later = not_true (p h) (λ there. true≢false (sym (reflexive h.0) ∙ ap (λ (m : ℤ × X). is_eq (value_cmp (Int m.0) (Int h.0))) (only h (inr later) there ∙ is) ∙ all_has _ kept h apart.0 later))
only_one {X} p (k ∷ kept) j apart (inr later) passed only = rw (not_true (p k) first) (only_one p kept j apart.1 later passed (λ h has_h. only h (inr has_h)))
  where
    first : p k ≡ true → ⊥
    first there = true≢false (sym (reflexive j.0) ∙ sym (ap (λ (m : ℤ × X). is_eq (value_cmp (Int m.0) (Int j.0))) (only k (inl refl) there)) ∙ all_has _ kept j apart.0 later)

module _ {K X : Type 0} (is_at : K → X → Bool) where
  abbrev Differ : X → X → Type 0
  Differ a b = (k : K) → is_at k a ≡ true → is_at k b ≡ false

  differ_back : (a b : X) → Differ a b → Differ b a
  differ_back a b differ k here = not_true (is_at k a) (λ there. true≢false (sym here ∙ differ k there))

  one_at : (kept : List (ℤ × X)) → IsAscending (λ a b. Differ a.1 b.1) kept → (a b : ℤ × X) → Has kept a → Has kept b → (k : K) → is_at k a.1 ≡ true → is_at k b.1 ≡ true → a ≡ b
  one_at [] differ a b none h k x y = absurd none
  one_at (c ∷ kept) differ a b (inl p) (inl q) k x y = p ∙ sym q
  one_at (c ∷ kept) differ a b (inl p) (inr h) k x y = absurd (true≢false (sym y ∙ all_has _ kept b differ.0 h k (ap (λ (m : ℤ × X). is_at k m.1) (sym p) ∙ x)))
  one_at (c ∷ kept) differ a b (inr h) (inl q) k x y = absurd (true≢false (sym x ∙ all_has _ kept a differ.0 h k (ap (λ (m : ℤ × X). is_at k m.1) (sym q) ∙ y)))
  one_at (c ∷ kept) differ a b (inr g) (inr h) k x y = one_at kept differ.1 a b g h k x y

  -- two entries at one key are one
  pub one_of : (encode : X → Row) (rows : List Row) (xs : List X) (keeps : Keeps encode rows xs) → HaveOwnKeys is_at xs → (a b : ℤ × X) → Has keeps.kept a → Has keeps.kept b → (k : K) → is_at k a.1 ≡ true → is_at k b.1 ≡ true
      → a ≡ b
  one_of encode rows xs keeps own a b has_a has_b k here there =
      one_at keeps.kept (ascending_from_map Differ (λ (e : ℤ × X). e.1) keeps.kept (ascending_permuted Differ differ_back xs (map (λ (e : ℤ × X). e.1) keeps.kept) (IsPermutation-sym _ _ keeps.same) own)) a b has_a has_b k here there

  -- the only entry at a key
  alone_at : (encode : X → Row) (rows : List Row) (xs : List X) (keeps : Keeps encode rows xs) → HaveOwnKeys is_at xs → (j : ℤ × X) → Has keeps.kept j → (k : K) → is_at k j.1 ≡ true
      → filter (λ e. is_at k e.1) keeps.kept ≡ j ∷ []
  alone_at encode rows xs keeps own j here k at =
      let differ = ascending_from_map Differ (λ (e : ℤ × X). e.1) keeps.kept (ascending_permuted Differ differ_back xs (map (λ (e : ℤ × X). e.1) keeps.kept) (IsPermutation-sym _ _ keeps.same) own) in
      only_one (λ e. is_at k e.1) keeps.kept j keeps.apart here at (λ e has_e there. one_at keeps.kept differ e j has_e here k there at)

twice : {X : Type 0} (b : Bool) (x y : Option X) → cond b x (cond b None y) ≡ cond b x y
twice true x y = refl
twice false x y = refl

module _ (schema : Schema) (at : ℕ) (table : Table) (is_table : IsTableOf schema at table) (sql : List ℕ) (params : Row) (old new : State) (count : ℕ) (has : old.now.schema ≡ schema)
    (ran : Executes sql params old new (Ok count)) where
  abbrev task : Task
  task = record { limit = old.step_limit; keys = (mode_of old).keys; schema = schema; table = table; params = params }

  abbrev rows : List Row
  rows = old.now.trees table.tree

  -- ---- what an upsert of one row comes to

  module _ (terms : List Term) (width : ℕ) (clauses : List Upsert) (source : Row) (means : Means schema sql (InsertOr at Abort (Values terms width) clauses))
      (source_is : value_rows (stamped table params) width (length terms / width) terms ≡ source ∷ []) where
    -- the row that is offered, under the next rowid
    abbrev offered : Row
    offered = with_rowid Chosen rows (cast_row table source)

    record Tried : Type 0 where
      pub written : Written
      pub schema_is : new.now.schema ≡ schema
      pub sound : IsDatabase new.now
      pub trees_are : new.now.trees ≡ written.trees
      pub upserts : Upserts task Abort offered old.now.trees clauses (Ok written)

    judged_so : (verdict : Option Refusal) (w : Written) → Judged task Abort clauses offered old.now.trees verdict (Ok w) → Upserts task Abort offered old.now.trees clauses (Ok w)
    judged_so None w h = h
    judged_so (Some why) w h = absurd (let e = h in cc)

    tried_so : (w : Written) → Tries task Abort clauses offered old.now.trees (Ok w) → Upserts task Abort offered old.now.trees clauses (Ok w)
    tried_so w (inl h) = absurd (let e = h.1 in cc)
    tried_so w (inr (verdict, judged, h)) = judged_so verdict w h

    tried : Tried
    tried =
        let command = InsertOr at Abort (Values terms width) clauses in
        let text = statement_of sql (understood schema sql) in
        let w : Writes old new None command text params count = runs_as sql params old new schema has command means.is means.plain count ran in
        let placed = subst (λ (o : Option Table). AtPlace (λ t. OnRows (record task { table = t }) (mode_of old) None command old.now.trees) o (Ok (w.tally, new.now))) is_table.there
        (subst (λ s. Does old.step_limit (mode_of old) params (record old.now { schema = s }) text None command (Ok (w.tally, new.now))) has w.changed) in
        let done = went placed in
        let now : new.now ≡ record { schema = schema; trees = done.0.trees } = ap (λ (p : Tally × Database). p.1) (same_value (went (went done.2).2).2) in
        let asked = went done.1 in
        let counted = went asked.2 in
        let wrote = went counted.2 in
        let tallied = went wrote.2 in
        let still : tallied.0 ≡ wrote.0.0.trees = not_counted _ table.is_counted _ is_table.uncounted tallied.1 in
        let each = subst (λ (rs : List Row). TriesEach task Abort clauses rs (count_of counted.0) (nothing old.now.trees) (Ok wrote.0)) (asked.1.1 ∙ source_is) wrote.1 in
        let one = went each in
        let last : wrote.0.0.trees ≡ one.0.trees = ap (λ (p : Written × ℤ). p.0.trees) (same_value one.2) in
        record {
          written = one.0;
          schema_is = ap (λ (d : Database). d.schema) now;
          sound = w.sound;
          trees_are = ap (λ (d : Database). d.trees) now ∙ ap (λ (it : Written). it.trees) (same_value tallied.2) ∙ still ∙ last;
          upserts = tried_so one.0 (subst (λ b. Tries task Abort clauses (with_rowid (cond b (Above (count_of counted.0)) Chosen) rows (cast_row table source)) old.now.trees (Ok one.0)) is_table.uncounted one.1);
        }

  -- ---- one row is put in where some rowids were taken out

  put_where : {X : Type 0} (encode : X → Row) (k : ℤ × X) (xs : List X) (gone : List ℤ) (news : List Row) (next : Trees) → news ≡ row_of encode k ∷ []
      → Edited schema (mode_of old).keys old.now.trees (record { table = table; gone = gone; news = news }) (Ok next) → Keeps encode (without_all rows gone) xs
      → AllByRecursion (λ t. t.tree ≢ table.tree → next t.tree ≡ old.now.trees t.tree) schema.tables × Keeps encode (next table.tree) (k.1 ∷ xs)
  put_where encode k xs gone news next news_are edited left =
      let edit : Edit = record { table = table; gone = gone; news = news } in
      let applied = one_step schema (mode_of old).keys old.now.trees next edit (is_table.free (taken_by old.now.trees edit) news (mode_of old).keys) edited in
      let free = not_taken _ (subst (λ (ns : List Row). are_fresh (without_all rows gone) ns ≡ true) news_are applied.fresh) in
      let rows_are : next table.tree ≡ put_row (row_of encode k) (without_all rows gone) = subst (λ (ns : List Row). next table.tree ≡ put_all (without_all rows gone) ns) news_are applied.rows in
      (applied.tables, subst (λ (rs : List Row). Keeps encode rs (k.1 ∷ xs)) (sym rows_are) (put_in encode k (without_all rows gone) xs left free))

  -- ---- the entry of a key is put in, or changed

  module _ {K X : Type 0} (same : K → K → Bool) (decides : (a b : K) → Decides (same a b) (a ≡ b)) (key : X → K) (encode : X → Row) (IsFormed : X → Type 0)
      (stores : Stores encode (is_at same decides key) IsFormed (old.now.trees table.tree)) (x : X) (formed : IsFormed x)
      (change : X → X) (becomes : (y : X) → key y ≡ key x → change y ≡ x) (terms : List Term) (width : ℕ) (source : Row) (target : List ℕ) (project tests : List Term)
      (means : Means schema sql (InsertOr at Abort (Values terms width) (record { target = Some target; update = Some (record { lets = []; body = plain_query (col 1 0 ∷ project) tests table.tree }) } ∷ [])))
      (source_is : value_rows (stamped table params) width (length terms / width) terms ≡ source ∷ [])
      (cast_is : cast_row table source ≡ Null ∷ encode x)
      (casts : (id : ℤ) → cast_row table (row_of encode (id, x)) ≡ row_of encode (id, x))
      (agrees : (id : ℤ) (k : ℤ × X) → conflicts (Some target) schema.indexes table (row_of encode (id, x)) (row_of encode k) ≡ is_at same decides key (key x) k.1)
      (tested : (id : ℤ) (more : Row) (k : ℤ × X) → list_all (holds ((params ++ Int id ∷ more) ∷ row_of encode k ∷ [])) tests ≡ is_eq (value_cmp (Int k.0) (Int id)))
      (sets : (id : ℤ) (more : Row) (k : ℤ × X) → eval_all project ((params ++ Int id ∷ more) ∷ row_of encode k ∷ []) ≡ row_of encode (k.0, change k.1)) where
    abbrev at_key : X → Bool
    at_key = is_at same decides key (key x)

    abbrev before : K → Option X
    before k = find (is_at same decides key k) stores.entries

    abbrev kept : List (ℤ × X)
    kept = stores.kept.kept

    abbrev update : Program
    update = record { lets = []; body = plain_query (col 1 0 ∷ project) tests table.tree }

    abbrev clause : Upsert
    clause = record { target = Some target; update = Some update }

    abbrev new_row : Row
    new_row = with_rowid Chosen rows (cast_row table source)

    abbrev new_id : ℤ
    new_id = next_rowid rows

    new_row_is : new_row ≡ row_of encode (new_id, x)
    new_row_is = ap (with_rowid Chosen rows) cast_is

    it : Tried terms width (clause ∷ []) source means source_is
    it = tried terms width (clause ∷ []) source means source_is

    abbrev Goal : Type 0
    Goal = After same decides key encode IsFormed schema at table is_table old.now new.now (λ j. cond (same j (key x)) (Some x) (before j))

    cleared_so : (found : List Row) (w : Written) → Clears task Abort new_row old.now.trees found (Ok w) → Puts task new_row old.now.trees (Ok w)
    cleared_so [] w h = h
    cleared_so (r ∷ rs) w h = h

    -- from what the table has then, beside the entry
    after_of : (xs : List X) (next : Trees) → it.written.trees ≡ next
        → AllByRecursion (λ t. t.tree ≢ table.tree → next t.tree ≡ old.now.trees t.tree) schema.tables × Keeps encode (next table.tree) (x ∷ xs)
        → HaveOwnKeys (is_at same decides key) xs → find at_key xs ≡ None → AllByRecursion IsFormed xs
        → ((j : K) → cond (same j (key x)) (Some x) (find (is_at same decides key j) xs) ≡ cond (same j (key x)) (Some x) (before j)) → Goal
    after_of xs next is placed own none all_formed are =
        let trees : next ≡ new.now.trees = sym (it.trees_are ∙ is) in
        record {
          writes = record {
            schema_is = it.schema_is;
            sound = it.sound;
            tables = subst (λ (ts : Trees). AllByRecursion (λ t. t.tree ≢ table.tree → ts t.tree ≡ old.now.trees t.tree) schema.tables) trees placed.0;
          };
          left = record {
            entries = x ∷ xs;
            kept = subst (λ (ts : Trees). Keeps encode (ts table.tree) (x ∷ xs)) trees placed.1;
            own_keys = own_more same decides key x xs own none;
            formed = (formed, all_formed);
          };
          are = are;
        }

    -- no entry has the key
    put_new : AreConflicts (Some target) schema.indexes table rows new_row [] → Puts task new_row old.now.trees (Ok it.written) → Goal
    put_new none h =
        let put = went h in
        let news = ap (λ (r : Row). cast_row table r ∷ []) new_row_is ∙ ap (λ (r : Row). r ∷ []) (casts new_id) in
        after_of stores.entries put.0 (ap (λ (w : Written). w.trees) (same_value put.2)) (put_where encode (new_id, x) stores.entries [] _ put.0 news put.1 stores.kept)
        stores.own_keys (find_none at_key stores.entries absent) stores.formed (λ j. refl)
      where
        absent : (y : X) → Has stores.entries y → at_key y ≡ true → ⊥
        absent y has_y here =
            let k = has_mapped (λ (k : ℤ × X). k.1) kept y (has_permuted _ _ y (IsPermutation-sym _ _ stores.kept.same) has_y) in
            let row : Has rows (row_of encode k.0) = subst (λ (rs : List Row). Has rs (row_of encode k.0)) (sym stores.kept.rows_are) (mapped_has (row_of encode) kept k.0 k.1) in
            none.complete (row_of encode k.0) row
            (ap (λ (r : Row). conflicts (Some target) schema.indexes table r (row_of encode k.0)) new_row_is ∙ agrees new_id k.0 ∙ ap at_key (sym k.2) ∙ here)

    -- the entry of the key is changed
    put_over : (there : Row) → ((r : Row) × Has rows r × (conflicts (Some target) schema.indexes table new_row r ≡ true) × (there ≡ rowid r ∷ []))
        → Updates task update (params ++ rowid there ∷ shown table new_row) old.now.trees (Ok it.written) → Goal
    put_over there found h =
        let from = has_mapped (row_of encode) kept found.0 (subst (λ (rs : List Row). Has rs found.0) stores.kept.rows_are found.1) in
        let j = from.0 in
        let id : rowid there ≡ Int j.0 = ap rowid found.3 ∙ ap rowid from.2 in
        let here : at_key j.1 ≡ true = sym (agrees new_id j) ∙ (λ i. conflicts (Some target) schema.indexes table (sym new_row_is i) (sym from.2 i)) ∙ found.2 in
        let more = shown table new_row in
        let asked = went (subst (λ v. Updates task update (params ++ v ∷ more) old.now.trees (Ok it.written)) id h) in
        let wrote = went asked.2 in
        let over : Keeps encode (overlay old.now.trees [] table.tree) stores.entries =
        record { kept = kept; rows_are = is_table.plainly old.now.trees ∙ stores.kept.rows_are; apart = stores.kept.apart; same = stores.kept.same } in
        let answer = answered_pairs encode (λ k. Int k.0 ∷ row_of encode (k.0, change k.1)) (λ k. is_eq (value_cmp (Int k.0) (Int j.0))) (col 1 0 ∷ project) tests (params ++ Int j.0 ∷ more)
        (tested j.0 more) (λ k. ap (λ r. Int k.0 ∷ r) (sets j.0 more k)) (overlay old.now.trees []) table.tree asked.0 stores.entries (asked.1.answer Null) over in
        let alone = only_one (λ (k : ℤ × X). is_eq (value_cmp (Int k.0) (Int j.0))) kept j stores.kept.apart from.1 (reflexive j.0) (λ k has_k is. one_each kept stores.kept.apart k j has_k from.1 is) in
        let row = one_permutation _ asked.0 (subst (λ (ks : List (ℤ × X)). IsPermutation (map (λ k. Int k.0 ∷ row_of encode (k.0, change k.1)) ks) asked.0) alone answer) in
        let edited = subst (λ (rs : List Row). Edited schema (mode_of old).keys old.now.trees (edit_of old.now.trees table (ids_of rs) Given 1 rs) (Ok wrote.0)) row wrote.1 in
        let news = ap (λ y. cast_row table (row_of encode (j.0, y)) ∷ []) (becomes j.1 (sym ((decides (key x) (key j.1)).0 here))) ∙ ap (λ (r : Row). r ∷ []) (casts j.0) in
        let others : List X = filter (λ y. not (at_key y)) stores.entries in
        let ids = subst (λ (ks : List (ℤ × X)). IsPermutation (map (λ k. k.0) ks) (j.0 ∷ [])) (sym (alone_at (is_at same decides key) encode rows stores.entries stores.kept stores.own_keys j from.1 (key x) here)) (IsPermutation-refl (j.0 ∷ [])) in
        let left = taken_out encode at_key rows stores.entries (j.0 ∷ []) stores.kept ids in
        let own = own-filter (is_at same decides key) (λ y. not (at_key y)) stores.entries stores.own_keys in
        let gone = find_without same decides key (key x) (key x) stores.entries ∙ ap (λ b. cond b None (before (key x))) (same_self same decides key (key x)) in
        after_of others wrote.0 (ap (λ (w : Written). w.trees) (same_value wrote.2)) (put_where encode (j.0, x) others (j.0 ∷ []) _ wrote.0 news edited left)
        own gone (all-filter IsFormed _ stores.entries stores.formed)
        (λ j. ap (cond (same j (key x)) (Some x)) (find_without same decides key j (key x) stores.entries) ∙ twice (same j (key x)) (Some x) (before j))

    met : (found : List Row) → AreConflicts (Some target) schema.indexes table rows new_row found
        → Meets task (Upserts task Abort new_row old.now.trees []) new_row old.now.trees clause found (Ok it.written) → Goal
    met [] are h = put_new are (cleared_so h.0 it.written h.2)
    met (there ∷ rest) are h = put_over there (are.sound there (inl refl)) h

    -- the entry is put in, or takes the place of the one at its key
    pub upserted : Goal
    upserted = met it.upserts.0 it.upserts.1 it.upserts.2
