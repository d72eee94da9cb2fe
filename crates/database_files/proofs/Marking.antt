-- A mark leaves a database one.
use Rattle.std.proofs.Common.{◌≡◌, ◌<◌, ℕ, List, [], ◌∷◌, inl, inr, refl, sym, ap, subst, arith, ne_eqb}
use Rattle.std.specs.Prelude.{filter}
use Rattle.std.specs.List.{AllZip}
use Rattle.sqlite_value.specs.declared.value.Value.{Value}
use Rattle.sqlite_value.specs.declared.value.Value.TheVariants.{Null, Int, Real, Text, Blob}
use Rattle.sqlite_trees.specs.Tree.{Trees}
use Rattle.sqlite_trees.specs.Objects.{catalog_tree, version_tree, with_version}
use Rattle.sqlite_sql.specs.Catalog.{IsIndexOf}
use Rattle.sqlite_schema.specs.declared.schema.Table.{Table}
use Rattle.sqlite_schema.specs.declared.schema.Index.{Index}
use Rattle.sqlite_schema.specs.declared.schema.Schema.{Schema}
use Rattle.sqlite_rules.specs.Lists.{Has}
use Rattle.sqlite_rules.proofs.ListLemmas.{all_has, all_from}
use Rattle.sqlite_rules.proofs.RuleLemmas.{keeps_same}
use Rattle.sqlite_catalog.specs.Listing.{IsDefined, IsIndexRow, IsSound, IsTableRow, is_index_row, is_table_row}

-- each of these has a row
row_of : {A B : Type 0} (R : A → B → Type 0) (rows : List A) (xs : List B) (x : B) → AllZip R rows xs → Has xs x → (row : A) × R row x
row_of R [] [] x zip has = absurd has
row_of R [] (y ∷ xs) x zip has = absurd zip
row_of R (row ∷ rows) [] x zip has = absurd has
row_of R (row ∷ rows) (y ∷ xs) x zip (inl same) = (row, subst (R row) (sym same) zip.0)
row_of R (row ∷ rows) (y ∷ xs) x zip (inr later) = row_of R rows xs x zip.1 later

-- a tree of a low number isn't that of the mark
unmarked : (db : Trees) (mark t : ℕ) → t < 65536 → with_version db mark t ≡ db t
unmarked db mark t low = rw (ne_eqb t version_tree (omega arith)) refl

-- an index is of its table
of_table : (t : Table) (i : Index) (sql : Value) → IsDefined t i sql → i.table ≡ t.tree
of_table t i Null defined = ap (λ (x : Index). x.table) defined.3
of_table t i (Int n) defined = absurd defined
of_table t i (Real x) defined = absurd defined
of_table t i (Text sql) defined = ap (λ (x : Index). x.table) defined.2
of_table t i (Blob b) defined = absurd defined

module _ (schema : Schema) (db : Trees) (mark : ℕ) (sound : IsSound schema db) where
  low_table : (t : Table) → Has schema.tables t → t.tree < 65536
  low_table t has = (row_of IsTableRow (filter is_table_row (db catalog_tree)) schema.tables t sound.lists.listed.tables has).1.described.low

  same_table : (t : Table) → Has schema.tables t → with_version db mark t.tree ≡ db t.tree
  same_table t has = unmarked db mark t.tree (low_table t has)

  same_index : (i : Index) → Has schema.indexes i → IsIndexOf i.columns (db i.table) (db i.tree) → IsIndexOf i.columns (with_version db mark i.table) (with_version db mark i.tree)
  same_index i has is =
      let row = (row_of (IsIndexRow schema.tables) (filter is_index_row (db catalog_tree)) schema.indexes i sound.lists.listed.indexes has).1 in
      let owner : i.table < 65536 = subst (λ n. n < 65536) (sym (of_table row.table i _ row.defined)) (low_table row.table row.listed) in
      subst (λ es. IsIndexOf i.columns es (with_version db mark i.tree)) (sym (unmarked db mark i.table owner))
      (subst (λ es. IsIndexOf i.columns (db i.table) es) (sym (unmarked db mark i.tree row.described.low)) is)

  pub marked_sound : IsSound schema (with_version db mark)
  marked_sound = record {
    lists = sound.lists;
    obeys = record {
      rules = λ rule. keeps_same schema db (with_version db mark) same_table rule (sound.obeys.rules rule);
      indexed = all_from _ schema.indexes (λ i has. same_index i has (all_has _ schema.indexes i sound.obeys.indexed has));
    };
  }
