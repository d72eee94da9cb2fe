-- The rows of values that are known, and when a query finds such a row.
use Rattle.std.proofs.Common.{◌≡◌, List, Bool, true, false, Option, None, Some, Result, Ok, Err, IfOk, subst}
use Rattle.std.specs.Prelude.{map, find, option_map, is_some}
use Rattle.std.specs.List.{AllByRecursion}
use Rattle.sqlite.specs.Order.{Row}
use Rattle.sqlite_rules.specs.Lists.{Has}
use Rattle.sqlite_rules.proofs.ListLemmas.{all_has}
use Rattle.office_words.specs.declared.fault.Fault.{Fault}
use Rattle.office_rows.specs.Entries.{Stores}
use Rattle.office_rows.proofs.Stored.{find_own, find_none}
use Rattle.office_rows.proofs.Finding.{IsFound}

-- the row of a value that is this, or that there is none
abbrev pub IsRowOf : {X : Type 0} → (X → Row) → (X → Type 0) → (Option X → Type 0) → Option Row → Type 0
IsRowOf encode IsFormed IsThis None = IsThis None
IsRowOf {X} encode IsFormed IsThis (Some row) = (x : X) × IsFormed x × (row ≡ encode x) × IsThis (Some x)

-- the rows of values that are these
pub record AreRowsOf {X : Type 0} (encode : X → Row) (IsFormed : X → Type 0) (AreThese : List X → Type 0) (rows : List Row) : Type 0 where
  pub values : List X
  pub rows_are : rows ≡ map encode values
  pub formed : AllByRecursion IsFormed values
  pub these : AreThese values

-- a row of a value that is this is one of a value that is that
pub row_as : {X : Type 0} (encode : X → Row) (IsFormed : X → Type 0) (IsThis IsThat : Option X → Type 0) → ((o : Option X) → IsThis o → IsThat o)
    → (r : Result (Option Row) Fault) → IfOk r (IsRowOf encode IsFormed IsThis) → IfOk r (IsRowOf encode IsFormed IsThat)
row_as encode IsFormed IsThis IsThat turned (Ok (Some row)) it = (it.0, it.1, it.2, turned (Some it.0) it.3)
row_as encode IsFormed IsThis IsThat turned (Ok None) none = turned None none
row_as encode IsFormed IsThis IsThat turned (Err f) it = it

-- a query by a key finds the value that the table has there
pub row_at : {K E X : Type 0} (encode_entry : E → Row) (is_at : K → E → Bool) (IsEntry : E → Type 0) (rows : List Row) (stores : Stores encode_entry is_at IsEntry rows) (k : K)
    (value_of : E → X) (encode : X → Row) (IsFormed : X → Type 0) (IsThis : Option X → Type 0) → ((e : E) → IsEntry e → is_at k e ≡ true → IsFormed (value_of e))
    → IsThis (option_map value_of (find (is_at k) stores.entries))
    → (r : Result (Option Row) Fault) → IfOk r (IsFound (is_at k) (λ e. encode (value_of e)) stores.entries) → IfOk r (IsRowOf encode IsFormed IsThis)
row_at encode_entry is_at IsEntry rows stores k value_of encode IsFormed IsThis formed this (Ok (Some row)) it = (
  value_of it.0,
  formed it.0 (all_has IsEntry stores.entries it.0 stores.formed it.1) it.2,
  it.3,
  subst (λ o. IsThis (option_map value_of o)) (find_own is_at stores.entries stores.own_keys k it.0 it.1 it.2) this,
)
row_at encode_entry is_at IsEntry rows stores k value_of encode IsFormed IsThis formed this (Ok None) none = subst (λ o. IsThis (option_map value_of o)) (find_none (is_at k) stores.entries none) this
row_at encode_entry is_at IsEntry rows stores k value_of encode IsFormed IsThis formed this (Err f) it = it

module _ {E : Type 0} (passes : E → Bool) (entries : List E) where
  -- a query finds the value of an entry that passes
  pub row_among : {X : Type 0} (value_of : E → X) (encode : X → Row) (IsFormed : X → Type 0) (IsThis : Option X → Type 0)
      → ((e : E) → Has entries e → passes e ≡ true → IsFormed (value_of e) × IsThis (Some (value_of e))) → (((e : E) → Has entries e → passes e ≡ true → ⊥) → IsThis None)
      → (r : Result (Option Row) Fault) → IfOk r (IsFound passes (λ e. encode (value_of e)) entries) → IfOk r (IsRowOf encode IsFormed IsThis)
  row_among value_of encode IsFormed IsThis some none (Ok (Some row)) it = let this = some it.0 it.1 it.2 in (value_of it.0, this.0, it.3, this.1)
  row_among value_of encode IsFormed IsThis some none (Ok None) it = none it
  row_among value_of encode IsFormed IsThis some none (Err f) it = it

  -- a query finds whether an entry passes
  pub any_among : (shown : E → Row) (IsThis : Bool → Type 0) → ((e : E) → Has entries e → passes e ≡ true → IsThis true) → (((e : E) → Has entries e → passes e ≡ true → ⊥) → IsThis false)
      → (r : Result (Option Row) Fault) → IfOk r (IsFound passes shown entries) → IfOk r (λ row. IsThis (is_some row))
  any_among shown IsThis some none (Ok (Some row)) it = some it.0 it.1 it.2
  any_among shown IsThis some none (Ok None) it = none it
  any_among shown IsThis some none (Err f) it = it
