-- What the reads of baselines and holds find.
use Rattle.std.proofs.Common.{◌≡◌, ℕ, ℤ, List, [], ◌∷◌, codes, Result, Option, IfOk, Bool, refl, sym, ap, ◌∙◌}
use Rattle.std.specs.Prelude.{bytes_eq, option_map, is_some}
use Rattle.std.specs.List.{list_all}
use Rattle.sqlite.specs.declared.types.Value.TheVariants.{Text}
use Rattle.sqlite.specs.Order.{Row}
use Rattle.sqlite.specs.Term.{col, holds}
use Rattle.sqlite.specs.Command.TheVariants.{Select}
use Rattle.sqlite.specs.State.{State}
use Rattle.sqlite_tied.specs.Compute.{everything}
use Rattle.sqlite.specs.Listing.{understood}
use Rattle.office_words.specs.declared.name.ProfileName.{ProfileName}
use Rattle.office_words.specs.declared.fault.Fault.{Fault}
use Rattle.office_words.specs.Tables.{Tables, is_profile}
use Rattle.office_rows.specs.Entries.{row_of}
use Rattle.office_rows.specs.Faults.{FindsRow}
use Rattle.office_rows.proofs.Plain.{plain_query, Means}
use Rattle.office_rows.proofs.Stored.{find_own, find_none}
use Rattle.office_rows.proofs.Finding.{finds_some}
use Rattle.office_store.specs.declared.baselines.TheConstants.{BASELINE_OF}
use Rattle.office_store.specs.declared.holds.TheConstants.{HOLD_OF}
use Rattle.office_store.specs.declared.baselines.Adopted.{Adopted}
use Rattle.office_store.specs.Adopted.{baseline_of, row_of_adopted, IsAdopted}
use Rattle.office_store.specs.Schema.{office_schema}
use Rattle.office_store.specs.Entries.{BaselineEntry, baseline_row, IsBaseline, hold_row}
use Rattle.office_store.specs.Shown.{Shows}
use Rattle.office_store.proofs.Columns.{column_is, one_is, text_is}
use Rattle.office_store.proofs.Kept.{map_of_map}
use Rattle.office_store.proofs.RowsOf.{IsRowOf, row_at, any_among}
use Rattle.office_store.specs.Keys.{profile_params}
use Rattle.office_store.proofs.Profiles.{at_profile, hold_tested}

baseline_tested : (team : List ℕ) (k : ℤ × BaselineEntry) → list_all (holds ((Text team ∷ []) ∷ row_of baseline_row k ∷ [])) (column_is 1 0 ∷ []) ≡ bytes_eq team k.1.0
baseline_tested team k = one_is _ _ (text_is k.1.0 team)

baseline_means : Means office_schema BASELINE_OF.now (Select (record { lets = []; body = plain_query (col 1 2 ∷ col 1 3 ∷ []) (column_is 1 0 ∷ []) 8 }) (codes "profile" ∷ codes "number" ∷ []))
unfolding understood everything
baseline_means = record { is = refl; plain = (refl, refl); unlisted = refl }

hold_means : Means office_schema HOLD_OF.now (Select (record { lets = []; body = plain_query (col 1 1 ∷ col 1 2 ∷ []) at_profile 10 }) (codes "team" ∷ codes "profile" ∷ []))
unfolding understood everything
hold_means = record { is = refl; plain = (refl, refl); unlisted = refl }

abbrev baseline_at : List ℕ → BaselineEntry → Bool
baseline_at team e = bytes_eq team e.0

abbrev adopted : BaselineEntry → Adopted
adopted e = record { profile = e.1.profile; number = e.1.number }

module _ (old new : State) (t : Tables) (shows : Shows old t) where
  pub reads_baseline : (team : List ℕ) (r : Result (Option Row) Fault) → FindsRow BASELINE_OF.now (Text team ∷ []) old new r
      → IfOk r (IsRowOf row_of_adopted IsAdopted (λ a. option_map baseline_of a ≡ t.baselines team))
  reads_baseline team r h =
      let o = shows.office in
      let it = finds_some baseline_row (λ e. row_of_adopted (adopted e)) (baseline_at team) (col 1 2 ∷ col 1 3 ∷ []) (column_is 1 0 ∷ []) office_schema BASELINE_OF.now (Text team ∷ []) 8 (codes "profile" ∷ codes "number" ∷ []) baseline_means (baseline_tested team) (λ k. refl)
      old new o.schema o.baselines.entries o.baselines.kept r h in
      row_at baseline_row baseline_at IsBaseline (old.now.trees 8) o.baselines team adopted row_of_adopted IsAdopted (λ a. option_map baseline_of a ≡ t.baselines team) (λ e formed at. (e.0, formed))
      (map_of_map baseline_of adopted _ ∙ sym (o.baselines_are team)) r it

  pub reads_hold : (p : ProfileName) (r : Result (Option Row) Fault) → FindsRow HOLD_OF.now (profile_params p) old new r
      → IfOk r (λ row. is_some row ≡ t.holds p)
  reads_hold p r h =
      let o = shows.office in
      let it = finds_some hold_row hold_row (is_profile p) (col 1 1 ∷ col 1 2 ∷ []) at_profile office_schema HOLD_OF.now (profile_params p) 10 (codes "team" ∷ codes "profile" ∷ []) hold_means (hold_tested p) (λ k. refl)
      old new o.schema o.holds.entries o.holds.kept r h in
      any_among (is_profile p) o.holds.entries hold_row (λ held. held ≡ t.holds p)
      (λ e has passed. sym (ap is_some (find_own is_profile o.holds.entries o.holds.own_keys p e has passed)) ∙ sym (o.holds_are p))
      (λ none. sym (ap is_some (find_none (is_profile p) o.holds.entries none)) ∙ sym (o.holds_are p)) r it

pub same_adopted : (a b : Adopted) → row_of_adopted a ≡ row_of_adopted b → a ≡ b
same_adopted a b same =
    let profile : a.profile ≡ b.profile = cc in
    let number : a.number ≡ b.number = cc in
    λ i. record { profile = profile i; number = number i }
