-- What the write of a user makes of the tables.
use Rattle.std.proofs.Common.{◌≡◌, ℤ, pos, List, [], ◌∷◌, cond, Some, ℕ, refl, sym, ap, ◌∙◌}
use Rattle.std.specs.Prelude.{bytes_eq}
use Rattle.std.proofs.lemmas.Slice.Eq.{bytes_eq-Decides}
use Rattle.sqlite.specs.declared.types.Value.TheVariants.{Null}
use Rattle.sqlite.specs.Term.{Term, lit, col}
use Rattle.sqlite.specs.Cast.{cast_row}
use Rattle.sqlite.specs.Store.{Ghosts}
use Rattle.sqlite.specs.Command.TheVariants.{InsertOr}
use Rattle.sqlite_schema.specs.declared.command.Conflict.TheVariants.{Abort}
use Rattle.sqlite_rules.specs.Keys.{conflicts}
use Rattle.sqlite_value.specs.Keys.{first_key}
use Rattle.sqlite.specs.Source.TheVariants.{Values}
use Rattle.sqlite.specs.Held.{state}
use Rattle.sqlite_tied.specs.Compute.{everything}
use Rattle.sqlite.specs.Listing.{understood}
use Rattle.office_words.specs.declared.row.UserRow.{UserRow}
use Rattle.office_words.specs.Tables.{Tables}
use Rattle.office_words.specs.Changes.{with_user}
use Rattle.office_rows.specs.Entries.{row_of}
use Rattle.office_rows.specs.Statements.{Statement}
use Rattle.office_rows.proofs.Plain.{plain_query, Means}
use Rattle.office_rows.proofs.Failing.{upsert_failed}
use Rattle.office_rows.proofs.Upserting.{upserted}
use Rattle.office_store.specs.declared.users.TheConstants.{PUT_USER}
use Rattle.office_store.specs.Schema.{office_schema, users_table}
use Rattle.office_store.specs.Entries.{user_row, IsUser}
use Rattle.office_store.specs.Steps.{IsStep, AreSteps}
use Rattle.office_store.proofs.Columns.{column_is, text_is, rowid_is, one_is, or_false, cast_null, cast_int}
use Rattle.office_store.proofs.Lenses.{is_users, with_users}

abbrev pub name_of : UserRow → List ℕ
name_of u = u.name

abbrev pub insert_terms : List Term
insert_terms = lit Null ∷ col 0 0 ∷ col 0 1 ∷ col 0 2 ∷ col 0 3 ∷ []

-- the columns of the user's row, where there is one
abbrev pub put_columns : List Term
put_columns = col 1 0 ∷ col 1 1 ∷ col 0 1 ∷ col 0 2 ∷ col 0 3 ∷ []

pub put_means : Means office_schema PUT_USER.now
    (InsertOr 1 Abort (Values insert_terms 5) (record { target = Some (1 ∷ []); update = Some (record { lets = []; body = plain_query (col 1 0 ∷ put_columns) (column_is 0 4 ∷ []) 1 }) } ∷ []))
unfolding understood everything
put_means = record { is = refl; plain = (refl, refl); unlisted = refl }

abbrev pub put_user : UserRow → Statement
put_user u = record { sql = PUT_USER.now; params = user_row u }

pub cast_user : (u : UserRow) → cast_row (users_table 1) (Null ∷ user_row u) ≡ Null ∷ user_row u
cast_user u = rw (cast_null, cast_int (pos u.roles))

pub cast_put : (id : ℤ) (u : UserRow) → cast_row (users_table 1) (row_of user_row (id, u)) ≡ row_of user_row (id, u)
cast_put id u = rw (cast_int id, cast_int (pos u.roles))

pub user_agrees : (u : UserRow) (id : ℤ) (k : ℤ × UserRow) → conflicts (Some (1 ∷ [])) office_schema.indexes (users_table 1) (row_of user_row (id, u)) (row_of user_row k) ≡ bytes_eq u.name k.1.name
unfolding first_key
user_agrees u id k = or_false _ ∙ one_is _ _ (text_is k.1.name u.name)

module _ {S : Type 0} (g : Ghosts S) where
  put_step : (u : UserRow) (t : Tables) → IsUser u → IsStep g (put_user u) t (with_user u t)
  put_step u t formed = record {
    ok = λ old new count o ran.
        let it = upserted office_schema 1 (users_table 1) is_users PUT_USER.now (user_row u) (state g old) (state g new) count o.schema ran bytes_eq bytes_eq-Decides name_of user_row IsUser o.users
        u formed (λ k. record u { name = k.name }) (λ k same i. record u { name = same i }) insert_terms 5 (Null ∷ user_row u) (1 ∷ []) put_columns (column_is 0 4 ∷ []) put_means refl (cast_user u)
        (λ id. cast_put id u) (user_agrees u) (λ id more k. one_is _ _ (rowid_is k.0 id)) (λ id more k. refl) in
        with_users (state g old).now (state g new).now t o it.writes it.left _ (λ n. ap (cond (bytes_eq n u.name) (Some u)) (o.users_are n) ∙ sym (it.are n));
    err = λ old new e o failed. upsert_failed PUT_USER.now (user_row u) 1 _ _ office_schema (state g old) (state g new) e o.schema put_means failed;
  }

  pub put_steps : (u : UserRow) (t : Tables) → IsUser u → AreSteps g (put_user u ∷ []) t (with_user u t)
  put_steps u t formed = (with_user u t, put_step u t formed, refl)
