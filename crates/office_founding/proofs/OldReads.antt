-- What the row of the office is in a store of schema 1.
use Rattle.std.proofs.Common.{inl, inr, ◌≡◌, ◌≢◌, ℕ, ℤ, pos, [], ◌∷◌, codes, None, Some, Ok, Err, Result, Option, IfOk, Bool, true, false, refl, ap, ◌∙◌}
use Rattle.std.proofs.lemmas.List.Sorted.{IsPermutation-refl, IsPermutation-sym}
use Rattle.sqlite.specs.declared.types.Value.TheVariants.{Null, Int}
use Rattle.sqlite.specs.Order.{Row}
use Rattle.sqlite.specs.Command.TheVariants.{Select}
use Rattle.sqlite.specs.Program.{overlay}
use Rattle.sqlite.specs.State.{State, QueriesRow, Shown}
use Rattle.sqlite.proofs.Callers.{first_as, reads_as}
use Rattle.sqlite_tied.specs.Compute.{everything}
use Rattle.sqlite.specs.Listing.{understood}
use Rattle.sqlite_schema.specs.Names.{same_name}
use Rattle.sqlite_rules.specs.Lists.{Has}
use Rattle.office_words.specs.declared.fault.Fault.{Fault}
use Rattle.office_words.specs.declared.fault.Fault.TheVariants.{NotAnOffice}
use Rattle.office_words.specs.Tables.{Tables}
use Rattle.office_rows.specs.Entries.{Keeps}
use Rattle.office_rows.specs.Faults.{FindsRow}
use Rattle.office_rows.proofs.Plain.{plain_query, Means}
use Rattle.office_rows.proofs.Reading.{answered_kept}
use Rattle.office_rows.proofs.Rowids.{has_permuted}
use Rattle.office_rows.proofs.Finding.{finds}
use Rattle.office_founding.specs.declared.form.TheConstants.{OFFICE_ROW}
use Rattle.office_store.specs.Schema.{old_schema, office_schema}
use Rattle.office_founding.specs.Form.{has_old_tables, old_form, numbered_row}
use Rattle.office_founding.specs.Migration.{ShowsOld}
use Rattle.office_founding.proofs.FormReads.{columns}

pub old_has_tables : has_old_tables old_schema ≡ true
unfolding same_name
old_has_tables = refl

pub office_has_old_tables : has_old_tables office_schema ≡ true
unfolding same_name
office_has_old_tables = refl

old_means : Means old_schema OFFICE_ROW.now (Select (record { lets = []; body = plain_query columns [] 0 }) (codes "key" ∷ codes "schema" ∷ codes "listed" ∷ []))
unfolding understood everything
old_means = record { is = refl; plain = (refl, refl); unlisted = refl }

abbrev old_columns : ℕ → Row
old_columns listed = Null ∷ Int (pos 1) ∷ Int (pos listed) ∷ []

abbrev shown : ℤ × ℕ → Row
shown k = Int k.0 ∷ Int (pos 1) ∷ Int (pos k.1) ∷ []

abbrev any : ℕ → Bool
any listed = true

-- the row of an office of schema 1
abbrev pub IsOldRow : Tables → Option Row → Type 0
IsOldRow t None = ⊥
IsOldRow t (Some row) = row ≡ numbered_row (old_form t.listed)

module _ (old new : State) (t : Tables) (shows : ShowsOld old t) (idle : old.in_transaction ≡ false) where
  one_office : Keeps old_columns (overlay old.now.trees [] 0) (t.listed ∷ [])
  one_office = record { kept = (pos 1, t.listed) ∷ []; rows_are = shows.office.office; apart = (tt, tt); same = IsPermutation-refl (t.listed ∷ []) }

  old_found : (row : Row) → QueriesRow OFFICE_ROW.now [] old new (Ok row) → row ≡ numbered_row (old_form t.listed)
  unfolding one_office
  old_found row h =
      let got = (first_as OFFICE_ROW.now [] old new old_schema shows.office.schema _ old_means.is old_means.plain old_means.unlisted row h).1 in
      let same = answered_kept old_columns shown any columns [] [] (λ k. refl) (λ k. refl) (overlay old.now.trees []) 0 (row ∷ got.0) (t.listed ∷ []) (got.1 Null) one_office in
      only (has_permuted _ _ row (IsPermutation-sym _ _ same) (inl refl))
    where
      only : Has (numbered_row (old_form t.listed) ∷ []) row → row ≡ numbered_row (old_form t.listed)
      only (inl is) = is
      only (inr none) = absurd none

  old_none : Shown OFFICE_ROW.now [] old new [] → ⊥
  unfolding one_office
  old_none h =
      let read = reads_as OFFICE_ROW.now [] old new old_schema shows.office.schema _ old_means.is old_means.plain old_means.unlisted [] h in
      let same = answered_kept old_columns shown any columns [] [] (λ k. refl) (λ k. refl) (overlay old.now.trees []) 0 [] (t.listed ∷ []) (read.answer Null) one_office in
      has_permuted _ _ (numbered_row (old_form t.listed)) same (inl refl)

  pub reads_old : (r : Result (Option Row) Fault) → FindsRow OFFICE_ROW.now [] old new r → IfOk r (IsOldRow t) × (r ≢ Err NotAnOffice)
  reads_old = finds _ old_schema OFFICE_ROW.now [] old_means old new shows.office.schema (IsOldRow t) old_found old_none

  pub shown_has_old_tables : has_old_tables old.now.schema ≡ true
  shown_has_old_tables = ap has_old_tables shows.office.schema ∙ old_has_tables
