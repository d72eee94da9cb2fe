-- Schemas that are an office's and schemas that aren't quite, to show what looking at them says; and
-- the rows of an office of schema 1.
use Rattle.std.specs.Prelude.{◌≡◌, ◌-◌, ℕ, pos, List, [], ◌∷◌, ◌++◌, None, Some, codes, cond, not}
use Rattle.std.specs.Prelude.{bytes_eq, filter, map, replicate, if◌then◌else◌, option_map}
use Rattle.std.specs.Prelude.{slice_get, unwrap_or, true, false}
use Rattle.sqlite.specs.Effect.{Database, IsDatabase}
use Rattle.sqlite.specs.Held.{Held, state}
use Rattle.sqlite.specs.Order.{Row}
use Rattle.sqlite.specs.Store.{Ghosts}
use Rattle.sqlite.specs.Table.{Table}
use Rattle.sqlite.specs.Schema.{Schema}
use Rattle.sqlite.specs.Kind.TheVariants.{Text}
use Rattle.sqlite.specs.Change.{created}
use Rattle.office_words.specs.declared.name.ProfileName.{ProfileName}
use Rattle.office_words.specs.declared.revision.State.TheVariants.{Issued}
use Rattle.office_words.specs.declared.row.UserRow.{UserRow}
use Rattle.office_words.specs.Tables.{Tables, is_profile}
use Rattle.office_rows.specs.Entries.{row_of}
use Rattle.office_store.specs.Entries.{BaselineEntry, Revision, VoteEntry, baseline_entry}
use Rattle.office_store.specs.Entries.{baseline_row, is_named, revision_key, revision_row}
use Rattle.office_store.specs.Entries.{same_revision, same_vote, user_row, vote_entry, vote_key}
use Rattle.office_store.specs.Entries.{vote_row}
use Rattle.office_founding.specs.Migration.{old_office_row}
use Rattle.office_store.specs.Schema.{column, table, no_schema, old_schema}

-- the columns of the five tables of schema 1, each by its table and its name
abbrev pub old_columns : List (List ℕ × List ℕ)
old_columns =
    (codes "office", codes "key")
    ∷ (codes "office", codes "schema")
    ∷ (codes "office", codes "listed")
    ∷ (codes "users", codes "name")
    ∷ (codes "users", codes "team")
    ∷ (codes "users", codes "roles")
    ∷ (codes "users", codes "token")
    ∷ (codes "revisions", codes "team")
    ∷ (codes "revisions", codes "profile")
    ∷ (codes "revisions", codes "number")
    ∷ (codes "revisions", codes "author")
    ∷ (codes "revisions", codes "state")
    ∷ (codes "revisions", codes "body")
    ∷ (codes "revisions", codes "digest")
    ∷ (codes "votes", codes "team")
    ∷ (codes "votes", codes "profile")
    ∷ (codes "votes", codes "number")
    ∷ (codes "votes", codes "voter")
    ∷ (codes "votes", codes "approve")
    ∷ (codes "votes", codes "security")
    ∷ (codes "baselines", codes "team")
    ∷ (codes "baselines", codes "profile")
    ∷ (codes "baselines", codes "number")
    ∷ []

-- the columns that schema 2 adds
abbrev pub added_columns : List (List ℕ × List ℕ)
added_columns = (codes "holds", codes "team") ∷ (codes "holds", codes "profile") ∷ []

abbrev pub office_columns : List (List ℕ × List ℕ)
office_columns = old_columns ++ added_columns

-- a table without a column
abbrev pub less_column : List ℕ → Table → Table
less_column name t = record t { columns = filter (λ c. not (bytes_eq c.name name)) t.columns }

-- a schema in which a table lacks a column
abbrev pub less : Schema → List ℕ × List ℕ → Schema
less schema (from, name) = record schema {
  tables = map (λ t. if bytes_eq t.name from then less_column name t else t) schema.tables;
}

-- a schema without an index
abbrev pub less_index : Schema → List ℕ → Schema
less_index schema name = record schema {
  indexes = filter (λ i. not (bytes_eq i.name name)) schema.indexes;
}

-- a schema of one table alone
abbrev pub alone : (ℕ → Table) → Schema
alone t = created no_schema (t 0)

-- a table that is none of an office's
abbrev pub notes_table : ℕ → Table
notes_table tree = table (codes "notes") tree (column (codes "body") Text ∷ []) None [] []

-- ---- keys and indexes

-- the names of the columns at these places of a table, counted from 1
abbrev pub names_at : Table → List ℕ → List (List ℕ)
names_at t places =
    map (λ at. unwrap_or (option_map (λ c. c.name) (slice_get t.columns (at - 1))) []) places

-- the columns of each key of a table, but for its rowid
abbrev pub keys_of : Table → List (List (List ℕ))
keys_of t = map (names_at t) t.uniques

-- ---- databases

-- a connection has this schema, and these rows in the table of the office
pub record HasNow {S : Type 0} (g : Ghosts S) (conn : Held S) (schema : Schema) (rows : List Row)
    : Type 0 where
  pub schema_is : (state g conn).now.schema ≡ schema
  pub office : (state g conn).now.trees 0 ≡ rows

-- ---- an office of schema 1

-- a user, a revision of a profile of the user's team, a vote on it, and that the team adopted it
abbrev pub old_user : UserRow
old_user = record {
  name = codes "ada";
  team = codes "core";
  roles = 5;
  digest = replicate 32 7;
}

abbrev pub old_profile : ProfileName
old_profile = record { team = codes "core"; profile = codes "web" }

abbrev pub old_revision : Revision
old_revision = (
  old_profile,
  record {
    number = 1;
    author = codes "ada";
    state = Issued;
    body = codes "text";
    digest = replicate 32 9;
  },
)

abbrev pub old_vote : VoteEntry
old_vote = vote_entry old_profile 1 (codes "bob") true false

abbrev pub old_baseline : BaselineEntry
old_baseline = baseline_entry old_profile 1

-- the tables that have just these
abbrev pub old_tables : Tables
old_tables = record {
  listed = 5;
  users = λ name. cond (is_named name old_user) (Some old_user) None;
  revisions = λ p n.
      cond (same_revision (p, n) (revision_key old_revision)) (Some old_revision.1) None;
  votes = λ p n voter. cond (same_vote (vote_key p n voter) old_vote.0) (Some old_vote.1) None;
  baselines = λ team. cond (bytes_eq team old_baseline.0) (Some old_baseline.1) None;
  holds = λ p. false;
}

-- the database is one of schema 1 with their rows
pub record HasOldRows (db : Database) : Type 0 where
  pub schema : db.schema ≡ old_schema
  pub sound : IsDatabase db
  pub office : db.trees 0 ≡ old_office_row 5 ∷ []
  pub users : db.trees 1 ≡ row_of user_row (pos 1, old_user) ∷ []
  pub revisions : db.trees 4 ≡ row_of revision_row (pos 1, old_revision) ∷ []
  pub votes : db.trees 6 ≡ row_of vote_row (pos 1, old_vote) ∷ []
  pub baselines : db.trees 8 ≡ row_of baseline_row (pos 1, old_baseline) ∷ []
