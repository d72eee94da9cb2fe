-- A worked example: what the texts of schema 1 and a row of the office make of an empty store is an office of schema 1.
use Rattle.std.proofs.Common.{◌≡◌, ◌<◌, ◌^◌, ℕ, pos, List, [], ◌∷◌, codes, refl, ap, ◌∙◌, arith}
use Rattle.sqlite.specs.declared.types.Value.TheVariants.{Null, Int}
use Rattle.sqlite.specs.Term.{Term, lit, col}
use Rattle.sqlite.specs.Cast.{cast_row}
use Rattle.sqlite.specs.Store.{Ghosts}
use Rattle.sqlite.specs.Command.TheVariants.{Insert}
use Rattle.sqlite.specs.Source.TheVariants.{Values}
use Rattle.sqlite.specs.Effect.{Database}
use Rattle.sqlite.specs.Held.{Held, state}
use Rattle.sqlite_tied.specs.Compute.{everything}
use Rattle.sqlite.specs.Listing.{understood}
use Rattle.sqlite_rules.specs.Edit.{with_rowid}
use Rattle.sqlite.specs.Rowids.TheVariants.{Chosen}
use Rattle.office_rows.specs.Statements.{Statement, RanAll}
use Rattle.office_rows.proofs.Plain.{Means}
use Rattle.office_rows.proofs.Failing.{insert_failed}
use Rattle.office_rows.proofs.Writing.{IsTableOf, WritesIn, inserts}
use Rattle.office_rows.proofs.Leading.{Makes, Leads, goes, ends, all_led}
use Rattle.office_rows.proofs.Creating.{HasEmptyTables, created_step}
use Rattle.office_store.specs.declared.schema.TheConstants.{CREATE_OFFICE, CREATE_USERS, CREATE_REVISIONS, CREATE_VOTES, CREATE_BASELINES}
use Rattle.office_store.specs.Schema.{no_schema, old_schema, office_table, users_table, revisions_table, votes_table, baselines_table}
use Rattle.office_founding.specs.Migration.{old_office_row, IsOldOffice}
use Rattle.office_store.specs.Steps.{statement}
use Rattle.office_store.proofs.Columns.{cast_null, cast_int}
use Rattle.office_founding.proofs.FoundingSteps.{with_office, with_users, with_revisions, with_votes, office_made, users_made, revisions_made, votes_made, baselines_made, no_tables, none_stored, first_put}

abbrev insert_old : List ℕ
insert_old = codes "INSERT INTO office (key, schema, listed) VALUES (1, 1, ?1)"

is_old_offices : IsTableOf old_schema 0 (office_table 0)
is_old_offices = record { there = refl; uncounted = refl; plainly = λ trees. refl; free = λ gone news keys. refl }

abbrev old_terms : List Term
old_terms = lit (Int (pos 1)) ∷ lit Null ∷ lit (Int (pos 1)) ∷ col 0 0 ∷ []

insert_means : Means old_schema insert_old (Insert 0 (Values old_terms 4))
unfolding understood everything
insert_means = record { is = refl; plain = (refl, refl); unlisted = refl }

cast_old : (listed : ℕ) → cast_row (office_table 0) (old_office_row listed) ≡ old_office_row listed
cast_old listed = rw (cast_null, cast_int (pos 1), cast_int (pos listed))

only_old_office : (old new : Database) (listed : ℕ) → listed < 2 ^ 41 → HasEmptyTables old_schema old → WritesIn old_schema 0 old new → new.trees 0 ≡ old_office_row listed ∷ [] → IsOldOffice new (no_tables listed)
only_old_office old new listed below before w row = record {
  schema = w.schema_is;
  sound = w.sound;
  office = row;
  listed = below;
  users = none_stored (new.trees 1) (w.tables.1.0 (λ e. omega (arith, e)) ∙ before.empty.1.0);
  users_are = λ name. refl;
  revisions = none_stored (new.trees 4) (w.tables.1.1.0 (λ e. omega (arith, e)) ∙ before.empty.1.1.0);
  revisions_are = λ p n. refl;
  votes = none_stored (new.trees 6) (w.tables.1.1.1.0 (λ e. omega (arith, e)) ∙ before.empty.1.1.1.0);
  votes_are = λ p n voter. refl;
  baselines = none_stored (new.trees 8) (w.tables.1.1.1.1.0 (λ e. omega (arith, e)) ∙ before.empty.1.1.1.1.0);
  baselines_are = λ team. refl;
  none_held = λ p. refl;
}

abbrev pub old_founding : ℕ → List Statement
old_founding listed =
    statement CREATE_OFFICE.now []
    ∷ statement CREATE_USERS.now []
    ∷ statement CREATE_REVISIONS.now []
    ∷ statement CREATE_VOTES.now []
    ∷ statement CREATE_BASELINES.now []
    ∷ statement insert_old (Int (pos listed) ∷ [])
    ∷ []

module _ {S : Type 0} (g : Ghosts S) (listed : ℕ) (below : listed < 2 ^ 41) where
  old_office_step : Makes g (statement insert_old (Int (pos listed) ∷ [])) (HasEmptyTables old_schema) (λ db. IsOldOffice db (no_tables listed))
  old_office_step = record {
    ok = λ old new count before ran.
        let it = inserts old_schema 0 (office_table 0) is_old_offices insert_old (Int (pos listed) ∷ []) (state g old) (state g new) count before.schema_is ran old_terms 4 (old_office_row listed) insert_means refl in
        let row = it.rows ∙ first_put ((state g old).now.trees 0) _ before.empty.0 ∙ ap (λ r. with_rowid Chosen ((state g old).now.trees 0) r ∷ []) (cast_old listed) in
        only_old_office (state g old).now (state g new).now listed below before it.writes row;
    err = λ old new e before failed. insert_failed insert_old (Int (pos listed) ∷ []) 0 _ old_schema (state g old) (state g new) e before.schema_is insert_means failed;
  }

  founds_old : Leads g (old_founding listed) (HasEmptyTables no_schema) (λ db. IsOldOffice db (no_tables listed))
  founds_old =
      goes (created_step g CREATE_OFFICE.now (office_table 0) no_schema office_made)
      (goes (created_step g CREATE_USERS.now (users_table 0) with_office users_made)
      (goes (created_step g CREATE_REVISIONS.now (revisions_table 0) with_users revisions_made)
      (goes (created_step g CREATE_VOTES.now (votes_table 0) with_revisions votes_made)
      (goes (created_step g CREATE_BASELINES.now (baselines_table 0) with_votes baselines_made)
      (goes old_office_step ends)))))
