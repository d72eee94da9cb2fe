-- What the statements that found an office make of an empty store.
use Rattle.std.proofs.Common.{◌≡◌, ◌<◌, ◌^◌, ℕ, pos, List, [], ◌∷◌, Bool, false, None, refl, sym, ap, subst, ◌∙◌, arith}
use Rattle.std.proofs.lemmas.List.Sorted.{IsPermutation-refl}
use Rattle.sqlite.specs.declared.types.Value.TheVariants.{Null, Int}
use Rattle.sqlite.specs.declared.error.Error.{Error}
use Rattle.sqlite.specs.Order.{Row}
use Rattle.sqlite.specs.Term.{Term, lit, col}
use Rattle.sqlite.specs.Cast.{cast_row}
use Rattle.sqlite.specs.Change.{created, indexed}
use Rattle.sqlite.specs.Schema.{Schema}
use Rattle.sqlite.specs.Store.{Ghosts}
use Rattle.sqlite.specs.Command.TheVariants.{Insert}
use Rattle.sqlite.specs.Source.TheVariants.{Values}
use Rattle.sqlite.specs.Effect.{Database}
use Rattle.sqlite.specs.Held.{Held, state}
use Rattle.sqlite_tied.specs.Compute.{everything}
use Rattle.sqlite.specs.Listing.{understood}
use Rattle.sqlite_trees.specs.Tree.{put_row}
use Rattle.sqlite_rules.specs.Edit.{with_rowid}
use Rattle.sqlite.specs.Rowids.TheVariants.{Chosen}
use Rattle.office_words.specs.declared.row.UserRow.{UserRow}
use Rattle.office_words.specs.Tables.{Tables}
use Rattle.office_words.specs.Changes.{founded_tables}
use Rattle.office_rows.specs.Entries.{Stores}
use Rattle.office_rows.specs.Faults.{IsOfMachine}
use Rattle.office_rows.specs.Statements.{begun, RanAll, FailedIn, RefusedIn}
use Rattle.office_rows.proofs.Plain.{Means}
use Rattle.office_rows.proofs.Failing.{insert_failed}
use Rattle.office_rows.proofs.Writing.{IsTableOf, WritesIn, inserts}
use Rattle.office_rows.proofs.Leading.{Makes, Leads, goes, ends, all_led, none_led}
use Rattle.office_rows.proofs.Creating.{HasEmptyTables, MakesTable, created_step}
use Rattle.office_founding.proofs.Indexing.{MakesIndexOn, indexed_step}
use Rattle.office_store.specs.declared.schema.TheConstants.{CREATE_OFFICE, CREATE_USERS, CREATE_REVISIONS, CREATE_VOTES, CREATE_BASELINES, CREATE_HOLDS, CREATE_BY_STATE, CREATE_BY_AUTHOR}
use Rattle.office_founding.specs.declared.founding.TheConstants.{INSERT_OFFICE}
use Rattle.office_store.specs.Schema.{no_schema, tables_schema, by_state, by_author, office_schema, office_table, users_table, revisions_table, votes_table, baselines_table, holds_table}
use Rattle.office_store.specs.Entries.{user_row, IsUser}
use Rattle.office_store.specs.Shown.{office_row, IsOffice}
use Rattle.office_store.specs.Steps.{statement}
use Rattle.office_founding.specs.Founding.{founding, founding_office}
use Rattle.office_store.proofs.Columns.{cast_null, cast_int}
use Rattle.office_founding.proofs.FirstUser.{insert_user, insert_step}

-- ---- the texts of the tables and of the indexes, one after the other

abbrev pub with_office : Schema
with_office = created no_schema (office_table 0)

abbrev pub with_users : Schema
with_users = created with_office (users_table 0)

abbrev pub with_revisions : Schema
with_revisions = created with_users (revisions_table 0)

abbrev pub with_votes : Schema
with_votes = created with_revisions (votes_table 0)

abbrev pub with_baselines : Schema
with_baselines = created with_votes (baselines_table 0)

pub office_made : MakesTable no_schema CREATE_OFFICE.now (office_table 0)
unfolding understood everything
office_made = record { means = record { is = refl; plain = (refl, refl); unlisted = refl }; defined = refl; lacks = refl }

pub users_made : MakesTable with_office CREATE_USERS.now (users_table 0)
unfolding understood everything
users_made = record { means = record { is = refl; plain = (refl, refl); unlisted = refl }; defined = refl; lacks = refl }

pub revisions_made : MakesTable with_users CREATE_REVISIONS.now (revisions_table 0)
unfolding understood everything
revisions_made = record { means = record { is = refl; plain = (refl, refl); unlisted = refl }; defined = refl; lacks = refl }

pub votes_made : MakesTable with_revisions CREATE_VOTES.now (votes_table 0)
unfolding understood everything
votes_made = record { means = record { is = refl; plain = (refl, refl); unlisted = refl }; defined = refl; lacks = refl }

pub baselines_made : MakesTable with_votes CREATE_BASELINES.now (baselines_table 0)
unfolding understood everything
baselines_made = record { means = record { is = refl; plain = (refl, refl); unlisted = refl }; defined = refl; lacks = refl }

pub holds_made : MakesTable with_baselines CREATE_HOLDS.now (holds_table 0)
unfolding understood everything
holds_made = record { means = record { is = refl; plain = (refl, refl); unlisted = refl }; defined = refl; lacks = refl }

abbrev pub with_states : Schema
with_states = indexed tables_schema (revisions_table 4) by_state

pub states_made : MakesIndexOn tables_schema 2 (revisions_table 4) CREATE_BY_STATE.now by_state
unfolding understood everything
states_made = record { there = refl; means = record { is = refl; plain = (refl, refl); unlisted = refl }; defined = refl }

pub authors_made : MakesIndexOn with_states 2 (revisions_table 4) CREATE_BY_AUTHOR.now by_author
unfolding understood everything
authors_made = record { there = refl; means = record { is = refl; plain = (refl, refl); unlisted = refl }; defined = refl }

-- ---- the row of the office

-- an office with no user
abbrev pub no_tables : ℕ → Tables
no_tables listed = record { listed = listed; users = λ name. None; revisions = λ p n. None; votes = λ p n voter. None; baselines = λ team. None; holds = λ p. false }

abbrev pub none_stored : {K X : Type 0} {encode : X → Row} {is_at : K → X → Bool} {IsFormed : X → Type 0} (rows : List Row) → rows ≡ [] → Stores encode is_at IsFormed rows
none_stored rows is = record { entries = []; kept = record { kept = []; rows_are = is; apart = tt; same = IsPermutation-refl [] }; own_keys = tt; formed = tt }

pub is_offices : IsTableOf office_schema 0 (office_table 0)
is_offices = record { there = refl; uncounted = refl; plainly = λ trees. refl; free = λ gone news keys. refl }

abbrev office_terms : List Term
office_terms = lit (Int (pos 1)) ∷ lit Null ∷ lit (Int (pos 2)) ∷ col 0 0 ∷ []

insert_means : Means office_schema INSERT_OFFICE.now (Insert 0 (Values office_terms 4))
unfolding understood everything
insert_means = record { is = refl; plain = (refl, refl); unlisted = refl }

cast_office : (listed : ℕ) → cast_row (office_table 0) (office_row listed) ≡ office_row listed
cast_office listed = rw (cast_null, cast_int (pos 1), cast_int (pos 2), cast_int (pos listed))

pub first_put : (rows : List Row) (row : Row) → rows ≡ [] → put_row row rows ≡ row ∷ []
first_put rows row is = ap (put_row row) is

only_office : (old new : Database) (listed : ℕ) → listed < 2 ^ 41 → HasEmptyTables office_schema old → WritesIn office_schema 0 old new → new.trees 0 ≡ office_row listed ∷ [] → IsOffice new (no_tables listed)
only_office old new listed below before w row = record {
  schema = w.schema_is;
  sound = w.sound;
  office = row;
  listed = below;
  users = none_stored (new.trees 1) (w.tables.1.0 (λ e. omega (arith, e)) ∙ before.empty.1.0);
  users_are = λ name. refl;
  revisions = none_stored (new.trees 4) (w.tables.1.1.0 (λ e. omega (arith, e)) ∙ before.empty.1.1.0);
  revisions_are = λ p n. refl;
  votes = none_stored (new.trees 6) (w.tables.1.1.1.0 (λ e. omega (arith, e)) ∙ before.empty.1.1.1.0);
  votes_are = λ p n voter. refl;
  baselines = none_stored (new.trees 8) (w.tables.1.1.1.1.0 (λ e. omega (arith, e)) ∙ before.empty.1.1.1.1.0);
  baselines_are = λ team. refl;
  holds = none_stored (new.trees 10) (w.tables.1.1.1.1.1.0 (λ e. omega (arith, e)) ∙ before.empty.1.1.1.1.1.0);
  holds_are = λ p. refl;
}

module _ {S : Type 0} (g : Ghosts S) where
  office_step : (listed : ℕ) → listed < 2 ^ 41 → Makes g (statement INSERT_OFFICE.now (Int (pos listed) ∷ [])) (HasEmptyTables office_schema) (λ db. IsOffice db (no_tables listed))
  office_step listed below = record {
    ok = λ old new count before ran.
        let it = inserts office_schema 0 (office_table 0) is_offices INSERT_OFFICE.now (Int (pos listed) ∷ []) (state g old) (state g new) count before.schema_is ran office_terms 4 (office_row listed) insert_means refl in
        let row = it.rows ∙ first_put ((state g old).now.trees 0) _ before.empty.0 ∙ ap (λ r. with_rowid Chosen ((state g old).now.trees 0) r ∷ []) (cast_office listed) in
        only_office (state g old).now (state g new).now listed below before it.writes row;
    err = λ old new e before failed. insert_failed INSERT_OFFICE.now (Int (pos listed) ∷ []) 0 _ office_schema (state g old) (state g new) e before.schema_is insert_means failed;
  }

  user_step : (u : UserRow) (listed : ℕ) → IsUser u → Makes g (insert_user u) (λ db. IsOffice db (no_tables listed)) (λ db. IsOffice db (founded_tables u listed))
  user_step u listed formed = let it = insert_step g u (no_tables listed) formed refl in record { ok = it.ok; err = it.err }

  founds : (u : UserRow) (listed : ℕ) → listed < 2 ^ 41 → IsUser u → Leads g (founding_office u listed) (HasEmptyTables no_schema) (λ db. IsOffice db (founded_tables u listed))
  founds u listed below formed =
      goes (created_step g CREATE_OFFICE.now (office_table 0) no_schema office_made)
      (goes (created_step g CREATE_USERS.now (users_table 0) with_office users_made)
      (goes (created_step g CREATE_REVISIONS.now (revisions_table 0) with_users revisions_made)
      (goes (created_step g CREATE_VOTES.now (votes_table 0) with_revisions votes_made)
      (goes (created_step g CREATE_BASELINES.now (baselines_table 0) with_votes baselines_made)
      (goes (created_step g CREATE_HOLDS.now (holds_table 0) with_baselines holds_made)
      (goes (indexed_step tables_schema 2 (revisions_table 4) CREATE_BY_STATE.now by_state states_made g)
      (goes (indexed_step with_states 2 (revisions_table 4) CREATE_BY_AUTHOR.now by_author authors_made g)
      (goes (office_step listed below)
      (goes (user_step u listed formed) ends)))))))))

  -- what failed, of parameters that are these
  pub failed_given : (u : UserRow) (listed : ℕ) (h end : Held S) (none office user : Row) (e : Error) → FailedIn g (founding none office user) h end e → none ≡ [] → office ≡ Int (pos listed) ∷ [] → user ≡ user_row u
      → FailedIn g (founding_office u listed) h end e
  failed_given u listed h end none office user e failed is_none is_office is_user =
      subst (λ (r : Row × Row × Row). FailedIn g (founding r.0 r.1 r.2) h end e) (λ i. (is_none i, is_office i, is_user i)) failed

  -- and what was refused
  pub refused_given : (u : UserRow) (listed : ℕ) (h : Held S) (none office user : Row) (e : Error) → RefusedIn g (founding none office user) h e → none ≡ [] → office ≡ Int (pos listed) ∷ [] → user ≡ user_row u
      → RefusedIn g (founding_office u listed) h e
  refused_given u listed h none office user e refused is_none is_office is_user =
      subst (λ (r : Row × Row × Row). RefusedIn g (founding r.0 r.1 r.2) h e) (λ i. (is_none i, is_office i, is_user i)) refused

  module _ (u : UserRow) (listed : ℕ) (below : listed < 2 ^ 41) (formed : IsUser u) (h : Held S) (empty : (state g h).now.schema ≡ no_schema) where
    given : (x y z : Row) → x ≡ [] → y ≡ Int (pos listed) ∷ [] → z ≡ user_row u → Leads g (founding x y z) (HasEmptyTables no_schema) (λ db. IsOffice db (founded_tables u listed))
    given x y z d e f =
        subst (λ (r : Row × Row × Row). Leads g (founding r.0 r.1 r.2) (HasEmptyTables no_schema) (λ db. IsOffice db (founded_tables u listed))) (λ i. (sym d i, sym e i, sym f i)) (founds u listed below formed)

    -- what the statements leave, of parameters that are these
    pub all_founded : (none office user : Row) (db : Database) → RanAll g (founding none office user) (begun h) db → none ≡ [] → office ≡ Int (pos listed) ∷ [] → user ≡ user_row u
        → IsOffice db (founded_tables u listed)
    all_founded none office user db ran is_none is_office is_user = all_led g (given none office user is_none is_office is_user) (begun h) db (record { schema_is = empty; empty = tt }) ran

    pub none_founded : (end : Held S) (none office user : Row) (e : Error) → FailedIn g (founding none office user) (begun h) end e → none ≡ [] → office ≡ Int (pos listed) ∷ [] → user ≡ user_row u → IsOfMachine e
    none_founded end none office user e failed is_none is_office is_user = none_led g (given none office user is_none is_office is_user) (begun h) end e (record { schema_is = empty; empty = tt }) failed
