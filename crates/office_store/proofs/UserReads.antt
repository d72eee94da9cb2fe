-- What the reads of users find.
use Rattle.std.proofs.Common.{◌≡◌, ℕ, ℤ, List, [], ◌∷◌, codes, Some, Result, Option, IfOk, Bool, refl, sym, ◌∙◌}
use Rattle.std.specs.Prelude.{bytes_eq}
use Rattle.std.specs.List.{list_all}
use Rattle.std.proofs.lemmas.Slice.Eq.{bytes_eq-Decides}
use Rattle.sqlite.specs.declared.types.Value.TheVariants.{Text, Blob}
use Rattle.sqlite.specs.Order.{Row}
use Rattle.sqlite.specs.Term.{Term, col, holds}
use Rattle.sqlite.specs.Command.TheVariants.{Select}
use Rattle.sqlite.specs.State.{State}
use Rattle.sqlite_tied.specs.Compute.{everything}
use Rattle.sqlite.specs.Listing.{understood}
use Rattle.sqlite_rules.proofs.ListLemmas.{all_has, has_found}
use Rattle.office_words.specs.declared.row.UserRow.{UserRow}
use Rattle.office_words.specs.declared.fault.Fault.{Fault}
use Rattle.office_words.specs.Tables.{Tables}
use Rattle.office_words.specs.Reads.{IsUserShowing}
use Rattle.office_rows.specs.Entries.{row_of}
use Rattle.office_rows.specs.Faults.{FindsRow}
use Rattle.office_rows.proofs.Plain.{plain_query, Means}
use Rattle.office_rows.proofs.Stored.{find_own}
use Rattle.office_rows.proofs.Finding.{finds_some}
use Rattle.office_store.specs.declared.users.TheConstants.{USER_BY_NAME, USER_BY_TOKEN}
use Rattle.office_store.specs.Schema.{office_schema}
use Rattle.office_store.specs.Entries.{is_named, user_row, IsUser}
use Rattle.office_store.specs.Shown.{Shows}
use Rattle.office_store.proofs.Columns.{column_is, text_is, blob_is, one_is}
use Rattle.office_store.proofs.Kept.{map_itself}
use Rattle.office_store.proofs.RowsOf.{IsRowOf, row_at, row_among}

abbrev all_columns : List Term
all_columns = col 1 1 ∷ col 1 2 ∷ col 1 3 ∷ col 1 4 ∷ []

abbrev names : List (List ℕ)
names = codes "name" ∷ codes "team" ∷ codes "roles" ∷ codes "token" ∷ []

by_name_means : Means office_schema USER_BY_NAME.now (Select (record { lets = []; body = plain_query all_columns (column_is 1 0 ∷ []) 1 }) names)
unfolding understood everything
by_name_means = record { is = refl; plain = (refl, refl); unlisted = refl }

by_token_means : Means office_schema USER_BY_TOKEN.now (Select (record { lets = []; body = plain_query all_columns (column_is 4 0 ∷ []) 1 }) names)
unfolding understood everything
by_token_means = record { is = refl; plain = (refl, refl); unlisted = refl }

abbrev shows_digest : List ℕ → UserRow → Bool
shows_digest digest u = bytes_eq digest u.digest

pub named_tested : (name : List ℕ) (k : ℤ × UserRow) → list_all (holds ((Text name ∷ []) ∷ row_of user_row k ∷ [])) (column_is 1 0 ∷ []) ≡ is_named name k.1
named_tested name k = one_is _ _ (text_is k.1.name name)

token_tested : (digest : List ℕ) (k : ℤ × UserRow) → list_all (holds ((Blob digest ∷ []) ∷ row_of user_row k ∷ [])) (column_is 4 0 ∷ []) ≡ shows_digest digest k.1
token_tested digest k = one_is _ _ (blob_is k.1.digest digest)

module _ (old new : State) (t : Tables) (shows : Shows old t) where
  pub found_formed : (name : List ℕ) (u : UserRow) → t.users name ≡ Some u → IsUser u
  found_formed name u at = all_has IsUser _ u shows.office.users.formed (has_found (is_named name) shows.office.users.entries u (sym (shows.office.users_are name) ∙ at)).0

  pub reads_named : (name : List ℕ) (r : Result (Option Row) Fault) → FindsRow USER_BY_NAME.now (Text name ∷ []) old new r
      → IfOk r (IsRowOf user_row IsUser (λ u. u ≡ t.users name))
  reads_named name r h =
      let o = shows.office in
      let it = finds_some user_row user_row (is_named name) all_columns (column_is 1 0 ∷ []) office_schema USER_BY_NAME.now (Text name ∷ []) 1 names by_name_means (named_tested name) (λ k. refl)
      old new o.schema o.users.entries o.users.kept r h in
      row_at user_row is_named IsUser (old.now.trees 1) o.users name (λ u. u) user_row IsUser (λ u. u ≡ t.users name) (λ u formed at. formed) (map_itself _ ∙ sym (o.users_are name)) r it

  pub reads_showing : (digest : List ℕ) (r : Result (Option Row) Fault) → FindsRow USER_BY_TOKEN.now (Blob digest ∷ []) old new r
      → IfOk r (IsRowOf user_row IsUser (IsUserShowing t digest))
  reads_showing digest r h =
      let o = shows.office in
      let it = finds_some user_row user_row (shows_digest digest) all_columns (column_is 4 0 ∷ []) office_schema USER_BY_TOKEN.now (Blob digest ∷ []) 1 names by_token_means (token_tested digest) (λ k. refl)
      old new o.schema o.users.entries o.users.kept r h in
      row_among (shows_digest digest) o.users.entries (λ u. u) user_row IsUser (IsUserShowing t digest)
      (λ u has same. (
        all_has IsUser _ u o.users.formed has,
        (o.users_are u.name ∙ find_own is_named o.users.entries o.users.own_keys u.name u has ((bytes_eq-Decides u.name u.name).1 refl), sym ((bytes_eq-Decides digest u.digest).0 same)),
      ))
      (λ none name u at same. none u (has_found (is_named name) o.users.entries u (sym (o.users_are name) ∙ at)).0 ((bytes_eq-Decides digest u.digest).1 (sym same))) r it

pub same_user : (u v : UserRow) → user_row u ≡ user_row v → u ≡ v
same_user u v same =
    let name : u.name ≡ v.name = cc in
    let team : u.team ≡ v.team = cc in
    let roles : u.roles ≡ v.roles = cc in
    let digest : u.digest ≡ v.digest = cc in
    λ i. record { name = name i; team = team i; roles = roles i; digest = digest i }
