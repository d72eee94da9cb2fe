-- A row of at most a billion bytes, with no REAL column and no float, can be stored.
use Rattle.std.proofs.Common.{◌≡◌, ◌⊎◌, inl, inr, ℕ, ℤ, pos, negsuc, ◌<◌, ◌≤◌, ◌+◌, ◌^◌, List, length, Bool, true, false, refl, subst, ltb, ltb-false, ltb-true, arith}
use Rattle.std.specs.Prelude.{sum_by}
use Rattle.std.specs.Float.{NotNan}
use Rattle.std.specs.Int.{bit_at}
use Rattle.std.specs.List.{AllByRecursion}
use Rattle.std.proofs.lemmas.List.Elements.{All-from_recursion}
use Rattle.std.proofs.lemmas.Nat.Bits.{bit_at-zero}
use Rattle.sqlite.specs.Order.{Row}
use Rattle.sqlite.specs.Schema.{Schema}
use Rattle.sqlite.specs.Table.{Table}
use Rattle.sqlite.specs.declared.types.Value.TheVariants.{Text, Blob}
use Rattle.sqlite_rules.specs.Edit.{IsOversized}
use Rattle.sqlite_rules.proofs.ListLemmas.{all_has}
use Rattle.sqlite_schema.specs.Rules.{table_reals, index_reals}
use Rattle.sqlite_schema.specs.declared.schema.Index.{Index}
use Rattle.sqlite_sql.specs.Catalog.{entry_of}
use Rattle.sqlite_trees.specs.View.{IsStorable, IsStorableRow}
use Rattle.sqlite_value.specs.Order.{bytes, exact, number}
use Rattle.office_rows.specs.Refusals.{IsBig}

pub finite : (z : ℤ) → NotNan (exact z)
unfolding lib.Ieee.is_nan
finite (pos n) = tt
finite (negsuc n) = tt

pub text_finite : (bytes : List ℕ) → NotNan (number (Text bytes))
unfolding lib.Ieee.is_nan
text_finite bytes = tt

pub blob_finite : (bytes : List ℕ) → NotNan (number (Blob bytes))
unfolding lib.Ieee.is_nan
blob_finite bytes = tt

abbrev pub size : Row → ℕ
size row = sum_by (λ v. 18 + length (bytes v)) row

pub storable : (reals : ℕ) (row : Row) → reals ≡ 0 → 0 < length row → length row ≤ 2001 → AllByRecursion (λ v. NotNan (number v)) row → size row ≤ 10 ^ 9 → IsStorable reals row
storable reals row none some few finite short = record {
  typed = λ c is. absurd (let k : bit_at 0 c ≡ 1 = subst (λ (n : ℕ). bit_at n c ≡ 1) none is in omega (arith, k, bit_at-zero c));
  columns = (some, few);
  numbers = All-from_recursion (λ v. NotNan (number v)) row finite;
  short = short;
}

fits_or_big : (n : ℕ) → (n ≤ 10 ^ 9) ⊎ (10 ^ 9 < n)
fits_or_big n = by (ltb (10 ^ 9) n) refl
  where
    by : (b : Bool) → ltb (10 ^ 9) n ≡ b → (n ≤ 10 ^ 9) ⊎ (10 ^ 9 < n)
    by true is = inr (ltb-true (10 ^ 9) n is)
    by false is = inl (ltb-false (10 ^ 9) n is)

-- such a row is too big for its table only by its bytes
pub big_of : (schema : Schema) (table : Table) (row : Row) → (size row ≤ 10 ^ 9 → IsStorableRow (table_reals table) row)
    → (size row ≤ 10 ^ 9 → AllByRecursion (λ (i : Index). i.table ≡ table.tree → IsStorable (index_reals (table_reals table) i.columns) (entry_of i.columns row)) schema.indexes)
    → IsOversized schema table row → IsBig row
big_of schema table row stored indexed big = elim (fits_or_big (size row)) [
  | inr more ↦ more
  | inl short ↦ elim big [
    | inl never ↦ absurd (never (stored short))
    | inr entry ↦ absurd (entry.3 (all_has _ schema.indexes entry.0 (indexed short) entry.1 entry.2))
  ]
]
