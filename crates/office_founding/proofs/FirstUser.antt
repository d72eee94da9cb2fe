-- What the row of a user who has none makes of the tables.
use Rattle.std.proofs.Common.{◌≡◌, [], ◌∷◌, cond, None, Some, refl, sym, ap, ◌∙◌}
use Rattle.std.specs.Prelude.{bytes_eq}
use Rattle.std.proofs.lemmas.Slice.Eq.{bytes_eq-Decides}
use Rattle.sqlite.specs.declared.types.Value.TheVariants.{Null}
use Rattle.sqlite.specs.Store.{Ghosts}
use Rattle.sqlite.specs.Command.TheVariants.{Insert}
use Rattle.sqlite.specs.Source.TheVariants.{Values}
use Rattle.sqlite.specs.Held.{state}
use Rattle.sqlite_tied.specs.Compute.{everything}
use Rattle.sqlite.specs.Listing.{understood}
use Rattle.office_words.specs.declared.row.UserRow.{UserRow}
use Rattle.office_words.specs.Tables.{Tables}
use Rattle.office_words.specs.Changes.{with_user}
use Rattle.office_rows.specs.Statements.{Statement}
use Rattle.office_rows.proofs.Plain.{Means}
use Rattle.office_rows.proofs.Failing.{insert_failed}
use Rattle.office_rows.proofs.Steps.{puts}
use Rattle.office_founding.specs.declared.founding.TheConstants.{INSERT_USER}
use Rattle.office_store.specs.Schema.{office_schema, users_table}
use Rattle.office_store.specs.Entries.{user_row, IsUser}
use Rattle.office_store.specs.Steps.{IsStep}
use Rattle.office_store.proofs.Lenses.{is_users, with_users}
use Rattle.office_store.proofs.UserWrites.{name_of, insert_terms, cast_user}

pub insert_means : Means office_schema INSERT_USER.now (Insert 1 (Values insert_terms 5))
unfolding understood everything
insert_means = record { is = refl; plain = (refl, refl); unlisted = refl }

abbrev pub insert_user : UserRow → Statement
insert_user u = record { sql = INSERT_USER.now; params = user_row u }

module _ {S : Type 0} (g : Ghosts S) where
  pub insert_step : (u : UserRow) (t : Tables) → IsUser u → t.users u.name ≡ None → IsStep g (insert_user u) t (with_user u t)
  insert_step u t formed none = record {
    ok = λ old new count o ran.
        let it = puts bytes_eq bytes_eq-Decides name_of user_row IsUser office_schema 1 (users_table 1) is_users INSERT_USER.now (user_row u) (state g old) (state g new) count o.schema ran o.users
        u formed (sym (o.users_are u.name) ∙ none) insert_terms 5 (Null ∷ user_row u) insert_means refl (cast_user u) in
        with_users (state g old).now (state g new).now t o it.writes it.left _ (λ n. ap (cond (bytes_eq n u.name) (Some u)) (o.users_are n) ∙ sym (it.are n));
    err = λ old new e o failed. insert_failed INSERT_USER.now (user_row u) 1 _ office_schema (state g old) (state g new) e o.schema insert_means failed;
  }
