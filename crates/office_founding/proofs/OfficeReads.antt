-- What the read of the listed capabilities finds.
use Rattle.std.proofs.Common.{◌≡◌, ℕ, ℤ, pos, List, [], ◌∷◌, codes, None, Some, Ok, Err, Result, Option, IfOk, Bool, true, false, refl, sym, ap, ◌∙◌, inl, inr}
use Rattle.std.proofs.lemmas.List.Sorted.{IsPermutation-refl}
use Rattle.sqlite.specs.declared.types.Value.TheVariants.{Null, Int}
use Rattle.sqlite.specs.Order.{Row}
use Rattle.sqlite.specs.Term.{col}
use Rattle.sqlite.specs.Command.TheVariants.{Select}
use Rattle.sqlite.specs.State.{State}
use Rattle.sqlite_tied.specs.Compute.{everything}
use Rattle.sqlite.specs.Listing.{understood}
use Rattle.sqlite_rules.specs.Lists.{Has}
use Rattle.office_words.specs.declared.fault.Fault.{Fault}
use Rattle.office_words.specs.Tables.{Tables}
use Rattle.office_rows.specs.Entries.{Keeps}
use Rattle.office_rows.specs.Faults.{FindsRow}
use Rattle.office_rows.proofs.Plain.{plain_query, Means}
use Rattle.office_rows.proofs.Finding.{IsFound, finds_some}
use Rattle.office_founding.specs.declared.office.TheConstants.{LISTED}
use Rattle.office_founding.specs.Form.{listed_row as row_of_listed, IsRowListed}
use Rattle.office_store.specs.Schema.{office_schema}
use Rattle.office_store.specs.Shown.{Shows}

listed_means : Means office_schema LISTED.now (Select (record { lets = []; body = plain_query (col 1 3 ∷ []) [] 0 }) (codes "listed" ∷ []))
unfolding understood everything
listed_means = record { is = refl; plain = (refl, refl); unlisted = refl }

-- the row of the office, as one entry

abbrev pub office_columns : ℕ → Row
office_columns listed = Null ∷ Int (pos 2) ∷ Int (pos listed) ∷ []

abbrev shown_listed : ℕ → Row
shown_listed listed = Int (pos listed) ∷ []

abbrev any : ℕ → Bool
any listed = true

module _ (old new : State) (t : Tables) (shows : Shows old t) (idle : old.in_transaction ≡ false) where
  abbrev pub one_office : Keeps office_columns (old.now.trees 0) (t.listed ∷ [])
  one_office = record { kept = (pos 1, t.listed) ∷ []; rows_are = shows.office.office; apart = (tt, tt); same = IsPermutation-refl (t.listed ∷ []) }

  listed_row : (r : Result (Option Row) Fault) → IfOk r (IsFound any shown_listed (t.listed ∷ [])) → IfOk r (IsRowListed t)
  listed_row (Ok (Some row)) it = it.3 ∙ ap shown_listed (only it.0 it.1)
    where
      only : (x : ℕ) → Has (t.listed ∷ []) x → x ≡ t.listed
      only x (inl is) = is
      only x (inr none) = absurd none
  listed_row (Ok None) none = none t.listed (inl refl) refl
  listed_row (Err f) it = it

  pub reads_listed : (r : Result (Option Row) Fault) → FindsRow LISTED.now [] old new r → IfOk r (IsRowListed t)
  reads_listed r h =
      let o = shows.office in
      let it = finds_some office_columns shown_listed any (col 1 3 ∷ []) [] office_schema LISTED.now [] 0 (codes "listed" ∷ []) listed_means (λ k. refl) (λ k. refl) old new o.schema (t.listed ∷ []) one_office r h in
      listed_row r it

pub same_listed : (n m : ℕ) (row : Row) → row ≡ row_of_listed n → row ≡ row_of_listed m → m ≡ n
same_listed n m row a b = let same : row_of_listed m ≡ row_of_listed n = sym b ∙ a in let k : m ≡ n = cc in k
