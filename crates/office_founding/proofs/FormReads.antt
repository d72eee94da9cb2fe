-- What the test that a store is an office finds in one.
use Rattle.std.proofs.Common.{inl, inr, ◌≡◌, ℕ, ℤ, pos, List, [], ◌∷◌, codes, Ok, Result, Option, IfOk, Bool, true, false, refl}
use Rattle.sqlite.specs.declared.types.Value.TheVariants.{Null, Int}
use Rattle.sqlite.specs.Order.{Row}
use Rattle.sqlite.specs.Term.{Term, col}
use Rattle.sqlite.specs.Command.TheVariants.{Select}
use Rattle.sqlite.specs.Program.{overlay}
use Rattle.sqlite.specs.State.{State, QueriesRow, Shown}
use Rattle.sqlite.proofs.Callers.{first_as, reads_as}
use Rattle.sqlite_tied.specs.Compute.{everything}
use Rattle.sqlite.specs.Listing.{understood}
use Rattle.sqlite_rules.specs.Lists.{Has}
use Rattle.std.proofs.lemmas.List.Sorted.{IsPermutation-sym}
use Rattle.office_words.specs.declared.fault.Fault.{Fault}
use Rattle.office_words.specs.Tables.{Tables}
use Rattle.office_rows.specs.Faults.{FindsRow}
use Rattle.office_rows.proofs.Plain.{plain_query, Means}
use Rattle.office_rows.proofs.Reading.{answered_kept}
use Rattle.office_rows.proofs.Rowids.{has_permuted}
use Rattle.office_rows.proofs.Finding.{finds}
use Rattle.office_founding.specs.declared.form.TheConstants.{OFFICE_ROW}
use Rattle.office_store.specs.Schema.{office_schema}
use Rattle.office_founding.specs.Form.{form_row}
use Rattle.office_founding.specs.Form.{IsFormRow}
use Rattle.office_store.specs.Shown.{Shows}
use Rattle.office_founding.proofs.OfficeReads.{office_columns, one_office}

abbrev pub columns : List Term
columns = col 1 0 ∷ col 1 2 ∷ col 1 3 ∷ []

abbrev names : List (List ℕ)
names = codes "key" ∷ codes "schema" ∷ codes "listed" ∷ []

pub form_means : Means office_schema OFFICE_ROW.now (Select (record { lets = []; body = plain_query columns [] 0 }) names)
unfolding understood everything
form_means = record { is = refl; plain = (refl, refl); unlisted = refl }

abbrev shown : ℤ × ℕ → Row
shown k = Int k.0 ∷ Int (pos 2) ∷ Int (pos k.1) ∷ []

abbrev any : ℕ → Bool
any listed = true

module _ (old new : State) (t : Tables) (shows : Shows old t) (idle : old.in_transaction ≡ false) where
  form_found : (row : Row) → QueriesRow OFFICE_ROW.now [] old new (Ok row) → row ≡ form_row t.listed
  form_found row h =
      let got = (first_as OFFICE_ROW.now [] old new office_schema shows.office.schema _ form_means.is form_means.plain form_means.unlisted row h).1 in
      let same = answered_kept office_columns shown any columns [] [] (λ k. refl) (λ k. refl) (overlay old.now.trees []) 0 (row ∷ got.0) (t.listed ∷ []) (got.1 Null) (one_office old new t shows idle) in
      only (has_permuted _ _ row (IsPermutation-sym _ _ same) (inl refl))
    where
      only : Has (form_row t.listed ∷ []) row → row ≡ form_row t.listed
      only (inl is) = is
      only (inr none) = absurd none

  form_none : Shown OFFICE_ROW.now [] old new [] → ⊥
  form_none h =
      let read = reads_as OFFICE_ROW.now [] old new office_schema shows.office.schema _ form_means.is form_means.plain form_means.unlisted [] h in
      let same = answered_kept office_columns shown any columns [] [] (λ k. refl) (λ k. refl) (overlay old.now.trees []) 0 [] (t.listed ∷ []) (read.answer Null) (one_office old new t shows idle) in
      has_permuted _ _ (form_row t.listed) same (inl refl)

  pub reads_form : (r : Result (Option Row) Fault) → FindsRow OFFICE_ROW.now [] old new r → IfOk r (IsFormRow t)
  reads_form r h =
      let it = finds _ office_schema OFFICE_ROW.now [] form_means old new shows.office.schema (IsFormRow t) form_found form_none r h in
      it.0
