-- Two offices that answer by other rows have other tables.
use Rattle.std.proofs.Common.{◌≡◌, ◌≢◌, ℤ, List, [], ◌∷◌, map, Bool, true, false, Less, Equal, refl, sym, ap, subst, ◌∙◌, true≢false}
use Rattle.std.specs.Prelude.{find, option_map}
use Rattle.std.specs.Bool.{Decides}
use Rattle.sqlite.specs.Effect.{Database}
use Rattle.sqlite.specs.Held.{state}
use Rattle.sqlite.specs.Order.{Row}
use Rattle.sqlite.specs.Program.{overlay}
use Rattle.sqlite.specs.Store.{Ghosts}
use Rattle.sqlite.specs.Term.{eval_all}
use Rattle.sqlite_trees.specs.Tree.{IsAscending}
use Rattle.sqlite_trees.proofs.ListLemmas.{ascending_weaker, filter_all}
use Rattle.sqlite_rules.specs.Lists.{Has}
use Rattle.sqlite_rules.proofs.ListLemmas.{all_from, has_found}
use Rattle.std.proofs.lemmas.List.Sorted.{IsPermutation-sym}
use Rattle.office_rows.specs.Entries.{Keeps, Stores, row_of}
use Rattle.office_rows.proofs.Asked.{shown_answer, table_in_order}
use Rattle.office_rows.proofs.InOrder.{ShowsInOrder, ascending_permuted, order_cmp, order_cmp_total, rises}
use Rattle.office_rows.proofs.Rowids.{has_permuted}
use Rattle.office_rows.proofs.Stored.{find_own}
use Rattle.office_store.proofs.Kept.{some_shown}
use Rattle.office_store.specs.Schema.{office_schema}
use Rattle.journal_faults.specs.declared.table.Table.{Table}
use Rattle.journal_verification.specs.Differing.{StandsFirst, columns_cmp}
use Rattle.journal_verification.specs.Same.{IsAnsweredBy}
use Rattle.journal_verification.specs.Texts.{key_width, rows_text}
use Rattle.journal_verification.proofs.Apart.{alone}
use Rattle.journal_verification.proofs.Offices.{bare}
use Rattle.journal_verification.proofs.Queries.{columns_of, names_of, order_of, rows_mean, rows_query, tree_of}

-- an entry that the first has and the second hasn't
pub record IsOnlyIn {X : Type 0} (encode : X → Row) (firsts seconds : List X) (row : Row) : Type 0 where
  pub entry : X
  pub has : Has firsts entry
  pub row_is : row ≡ encode entry
  pub none : Has seconds entry → ⊥

module _ {K X : Type 0} (encode keyed : X → Row) (same : K → K → Bool) (decides : (a b : K) → Decides (same a b) (a ≡ b)) (key : X → K) (IsFormed : X → Type 0) (x : Table)
    (showed : (k : ℤ × X) → eval_all (columns_of x) ([] ∷ row_of encode k ∷ []) ≡ encode k.1) (sorts : (k : ℤ × X) → eval_all (map (λ o. o.0) (order_of x)) ([] ∷ row_of encode k ∷ []) ≡ keyed k.1)
    (tied : (a b : X) → order_cmp keyed encode (order_of x) a b ≡ Equal → key a ≡ key b)
    (columns : (a b : X) → columns_cmp (key_width x) (encode a) (encode b) ≡ order_cmp keyed encode (order_of x) a b) where
  abbrev is_at : K → X → Bool
  is_at k e = same k (key e)

  abbrev Kept : List Row → Type 0
  Kept = Stores encode is_at IsFormed

  abbrev HaveOwn : X → X → Type 0
  HaveOwn a b = (k : K) → is_at k a ≡ true → is_at k b ≡ false

  own_back : (a b : X) → HaveOwn a b → HaveOwn b a
  own_back a b own k here = go (is_at k a) refl
    where
      go : (v : Bool) → is_at k a ≡ v → is_at k a ≡ false
      go true e = absurd (true≢false (sym here ∙ own k e))
      go false e = e

  own_apart : (a b : X) → HaveOwn a b → order_cmp keyed encode (order_of x) a b ≢ Equal
  own_apart a b own tie = true≢false (sym ((decides (key a) (key b)).1 (tied a b tie)) ∙ own (key a) ((decides (key a) (key a)).1 refl))

  in_order : {S : Type 0} (g : Ghosts S) (db : Database) → db.schema ≡ office_schema → (rows : List Row) → IsAnsweredBy g (rows_text x) db rows → (kept : Kept (db.trees (tree_of x)))
      → ShowsInOrder keyed encode (order_of x) kept.entries rows
  in_order g db has rows it kept =
      let trees = (state g it.old).now.trees in
      let a = shown_answer (rows_query x) office_schema (rows_text x) [] (names_of x) (rows_mean x) (state g it.old) (state g it.new) (ap (λ (d : Database). d.schema) it.now ∙ has) rows it.shown in
      let keeps : Keeps encode (overlay trees [] (tree_of x)) kept.entries = subst (λ l. Keeps encode l kept.entries) (sym (bare x trees ∙ ap (λ (d : Database). d.trees (tree_of x)) it.now)) kept.kept in
      subst (λ l. ShowsInOrder keyed encode (order_of x) l rows) (filter_all (λ _. true) kept.entries (all_from _ kept.entries (λ e h. refl)))
      (table_in_order encode keyed encode (λ _. true) (columns_of x) [] (order_of x) [] (λ k. refl) showed sorts (overlay trees []) (tree_of x) rows kept.entries keeps a)

  rising : (rows : List Row) (kept : Kept rows) (answer : List Row) (o : ShowsInOrder keyed encode (order_of x) kept.entries answer) → IsAscending (λ a b. order_cmp keyed encode (order_of x) a b ≡ Less) o.from
  rising rows kept answer o =
      rises (order_cmp keyed encode (order_of x)) (order_cmp_total keyed encode (order_of x)) o.from o.sorted
      (ascending_weaker HaveOwn (λ a b. order_cmp keyed encode (order_of x) a b ≢ Equal) own_apart o.from (ascending_permuted HaveOwn own_back kept.entries o.from o.same kept.own_keys))

  pub only_in : {S T : Type 0} (g : Ghosts S) (f : Ghosts T) (a b : Database) → a.schema ≡ office_schema → b.schema ≡ office_schema → (left right : List Row) (row : Row) → IsAnsweredBy g (rows_text x) a left
      → IsAnsweredBy f (rows_text x) b right → (first : Kept (a.trees (tree_of x))) (second : Kept (b.trees (tree_of x))) → StandsFirst (key_width x) left right row → IsOnlyIn encode first.entries second.entries row
  only_in g f a b has_a has_b left right row in_a in_b first second stands =
      let o = in_order g a has_a left in_a first in
      let p = in_order f b has_b right in_b second in
      let it = alone encode (order_cmp keyed encode (order_of x)) (order_cmp_total keyed encode (order_of x)) (key_width x) columns o.from p.from row (rising _ first left o) (rising _ second right p)
      (subst (λ l. StandsFirst (key_width x) (map encode o.from) l row) p.rows_are (subst (λ l. StandsFirst (key_width x) l right row) o.rows_are stands)) in
      record {
        entry = it.entry;
        has = has_permuted _ _ it.entry (IsPermutation-sym _ _ o.same) it.has;
        row_is = it.row_is;
        none = λ h. it.none (has_permuted _ _ it.entry p.same h);
      }

  -- so they differ at its key
  pub differ_at : {V : Type 0} (value : X → V) → ((a b : X) → key a ≡ key b → value a ≡ value b → a ≡ b) → (rows others : List Row) (first : Kept rows) (second : Kept others) (row : Row)
      → (only : IsOnlyIn encode first.entries second.entries row) → option_map value (find (is_at (key only.entry)) first.entries) ≢ option_map value (find (is_at (key only.entry)) second.entries)
  differ_at value whole rows others first second row only equal =
      let k = key only.entry in
      let here = find_own is_at first.entries first.own_keys k only.entry only.has ((decides k k).1 refl) in
      let it = some_shown value (find (is_at k) second.entries) (value only.entry) (sym (ap (option_map value) here) ∙ equal) in
      let there = has_found (is_at k) second.entries it.0 it.1 in
      only.none (subst (Has second.entries) (sym (whole only.entry it.0 ((decides k (key it.0)).0 there.1) it.2)) there.0)
