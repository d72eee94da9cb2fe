-- What a statement of a known meaning makes of the entries of a table and of what stands at each key.
use Rattle.std.proofs.Common.{◌≡◌, ℕ, ℤ, List, [], ◌∷◌, map, Bool, not, cond, Option, None, Some, Ok, refl}
use Rattle.std.specs.Prelude.{filter, find, option_map, length, ◌/◌}
use Rattle.std.specs.List.{list_all}
use Rattle.std.specs.Bool.{Decides}
use Rattle.sqlite.specs.declared.types.Value.TheVariants.{Null}
use Rattle.sqlite.specs.Order.{Row}
use Rattle.sqlite.specs.Schema.{Schema}
use Rattle.sqlite.specs.Table.{Table}
use Rattle.sqlite.specs.Term.{Term, col, eval_all, holds}
use Rattle.sqlite.specs.Cast.{cast_row}
use Rattle.sqlite.specs.Rows.{stamped}
use Rattle.sqlite.specs.Effect.{Database, value_rows}
use Rattle.sqlite.specs.Command.TheVariants.{Insert, Update, Delete}
use Rattle.sqlite.specs.Source.TheVariants.{Values}
use Rattle.sqlite.specs.State.{State, Executes}
use Rattle.sqlite_trees.proofs.ListLemmas.{all-filter, all-map, all_weaker}
use Rattle.office_rows.specs.Entries.{Stores, row_of}
use Rattle.office_rows.proofs.Plain.{plain_query, Means}
use Rattle.office_rows.proofs.Permuted.{changed_if}
use Rattle.office_rows.proofs.Stored.{is_at, find_without, own-filter, own_more, find_changed, own_changed}
use Rattle.office_rows.proofs.Writing.{IsTableOf, WritesIn, deleted, inserted, updated}

module _ {K X : Type 0} (same : K → K → Bool) (decides : (a b : K) → Decides (same a b) (a ≡ b)) (key : X → K) (encode : X → Row) (IsFormed : X → Type 0)
    (schema : Schema) (at : ℕ) (table : Table) (is_table : IsTableOf schema at table) where
  abbrev pub Entries : List Row → Type 0
  Entries = Stores encode (is_at same decides key) IsFormed

  -- the entries of the table after a statement, which wrote no other table
  pub record After (old new : Database) (at_key : K → Option X) : Type 0 where
    pub writes : WritesIn schema table.tree old new
    pub left : Entries (new.trees table.tree)
    pub are : (k : K) → find (is_at same decides key k) left.entries ≡ at_key k

  module _ (sql : List ℕ) (params : Row) (old new : State) (count : ℕ) (has : old.now.schema ≡ schema) (ran : Executes sql params old new (Ok count)) (stores : Entries (old.now.trees table.tree)) where
    abbrev before : K → Option X
    before k = find (is_at same decides key k) stores.entries

    -- the entry at a key is taken out
    pub removes : (k : K) (tests : List Term) → Means schema sql (Delete at (record { lets = []; body = plain_query (col 1 0 ∷ []) tests table.tree }))
        → ((e : ℤ × X) → list_all (holds (params ∷ row_of encode e ∷ [])) tests ≡ is_at same decides key k e.1)
        → After old.now new.now (λ j. cond (same j k) None (before j))
    removes k tests means tested =
        let it = deleted schema at table is_table sql params old new count has ran encode (is_at same decides key k) tests means tested stores.entries stores.kept in
        record {
          writes = it.0;
          left = record {
            entries = filter (λ x. not (is_at same decides key k x)) stores.entries;
            kept = it.1;
            own_keys = own-filter (is_at same decides key) _ stores.entries stores.own_keys;
            formed = all-filter IsFormed _ stores.entries stores.formed;
          };
          are = λ j. find_without same decides key j k stores.entries;
        }

    -- an entry is put in where there was none
    pub puts : (x : X) → IsFormed x → before (key x) ≡ None → (terms : List Term) (width : ℕ) (source : Row) → Means schema sql (Insert at (Values terms width))
        → value_rows (stamped table params) width (length terms / width) terms ≡ source ∷ [] → cast_row table source ≡ Null ∷ encode x
        → After old.now new.now (λ j. cond (same j (key x)) (Some x) (before j))
    puts x formed none terms width source means source_is cast_is =
        let it = inserted schema at table is_table sql params old new count has ran terms width source means source_is encode x cast_is stores.entries stores.kept in
        record {
          writes = it.0;
          left = record {
            entries = x ∷ stores.entries;
            kept = it.1;
            own_keys = own_more same decides key x stores.entries stores.own_keys none;
            formed = (formed, stores.formed);
          };
          are = λ j. refl;
        }

    -- the entries that pass are changed, and not their keys
    pub changes : (passes : X → Bool) (change : X → X) → ((x : X) → key (changed_if passes change x) ≡ key x) → ((x : X) → IsFormed x → IsFormed (changed_if passes change x))
        → (project tests : List Term) → Means schema sql (Update at (record { lets = []; body = plain_query (col 1 0 ∷ project) tests table.tree }))
        → ((e : ℤ × X) → list_all (holds (params ∷ row_of encode e ∷ [])) tests ≡ passes e.1)
        → ((e : ℤ × X) → eval_all project (params ∷ row_of encode e ∷ []) ≡ row_of encode (e.0, change e.1))
        → ((e : ℤ × X) → cast_row table (row_of encode (e.0, change e.1)) ≡ row_of encode (e.0, change e.1))
        → After old.now new.now (λ j. option_map (changed_if passes change) (before j))
    changes passes change keeps forms project tests means tested sets casts =
        let it = updated schema at table is_table sql params old new count has ran encode passes change project tests means tested sets casts stores.entries stores.kept in
        record {
          writes = it.0;
          left = record {
            entries = map (changed_if passes change) stores.entries;
            kept = it.1;
            own_keys = own_changed same decides key (changed_if passes change) keeps stores.entries stores.own_keys;
            formed = all-map IsFormed (changed_if passes change) stores.entries (all_weaker IsFormed (λ x. IsFormed (changed_if passes change x)) forms stores.entries stores.formed);
          };
          are = λ j. find_changed same decides key (changed_if passes change) keeps j stores.entries;
        }
