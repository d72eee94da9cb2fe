-- When a connection shows the tables of an office.
use Rattle.std.specs.Prelude.{◌≡◌, ◌⊎◌, ◌<◌, ◌^◌, ℕ, pos, false, List, [], ◌∷◌, find, Option}
use Rattle.std.specs.Prelude.{option_map}
use Rattle.std.specs.Prelude.{is_some, None, bytes_eq, IsTrue}
use Rattle.sqlite.specs.declared.types.Value.TheVariants.{Null, Int}
use Rattle.sqlite.specs.Order.{Row}
use Rattle.sqlite.specs.Effect.{Database, IsDatabase}
use Rattle.sqlite.specs.State.{State, HasCleanDisk}
use Rattle.sqlite_trees.specs.Tree.{Trees}
use Rattle.office_words.specs.declared.name.ProfileName.{ProfileName}
use Rattle.office_words.specs.declared.row.RevisionRow.{RevisionRow}
use Rattle.office_words.specs.Tables.{Tables, Vote, Baseline, is_profile}
use Rattle.office_rows.specs.Entries.{Stores}
use Rattle.office_store.specs.Schema.{office_schema}
use Rattle.office_store.specs.Entries.{is_named, user_row, IsUser, IsProfileName, same_revision}
use Rattle.office_store.specs.Entries.{Revision, revision_key, revision_row, IsRevision, VoteEntry}
use Rattle.office_store.specs.Entries.{same_vote, vote_key, vote_row, IsVote, BaselineEntry}
use Rattle.office_store.specs.Entries.{baseline_row, IsBaseline, hold_row}

-- the row of an office: its key, the number of the schema, and the listed capabilities
abbrev pub office_row : ℕ → Row
office_row listed = Int (pos 1) ∷ Null ∷ Int (pos 2) ∷ Int (pos listed) ∷ []

abbrev pub Users : List Row → Type 0
Users = Stores user_row is_named IsUser

abbrev pub Revisions : List Row → Type 0
Revisions = Stores revision_row (λ k e. same_revision k (revision_key e)) IsRevision

abbrev pub Votes : List Row → Type 0
Votes = Stores vote_row (λ k e. same_vote k e.0) IsVote

abbrev pub Baselines : List Row → Type 0
Baselines = Stores baseline_row (λ team e. bytes_eq team e.0) IsBaseline

abbrev pub Holds : List Row → Type 0
Holds = Stores hold_row is_profile IsProfileName

-- the revision of this profile and number among these entries
abbrev pub revision_in : List Revision → ProfileName → ℕ → Option RevisionRow
revision_in entries p n =
    option_map (λ e. e.1) (find (λ e. same_revision (p, n) (revision_key e)) entries)

-- the vote of this voter on it
abbrev pub vote_in : List VoteEntry → ProfileName → ℕ → List ℕ → Option Vote
vote_in entries p n voter =
    option_map (λ e. e.1) (find (λ e. same_vote (vote_key p n voter) e.0) entries)

-- the baseline of this team
abbrev pub baseline_in : List BaselineEntry → List ℕ → Option Baseline
baseline_in entries team = option_map (λ e. e.1) (find (λ e. bytes_eq team e.0) entries)

-- the database has the schema of an office, which its trees list and obey, and at each key what the
-- tables have there
pub record IsOffice (db : Database) (t : Tables) : Type 0 where
  pub schema : db.schema ≡ office_schema
  pub sound : IsDatabase db
  pub office : db.trees 0 ≡ office_row t.listed ∷ []
  pub listed : t.listed < 2 ^ 41
  pub users : Users (db.trees 1)
  pub users_are : (name : List ℕ) → t.users name ≡ find (is_named name) users.entries
  pub revisions : Revisions (db.trees 4)
  pub revisions_are : (p : ProfileName) (n : ℕ)
      → t.revisions p n ≡ revision_in revisions.entries p n
  pub votes : Votes (db.trees 6)
  pub votes_are : (p : ProfileName) (n : ℕ) (voter : List ℕ)
      → t.votes p n voter ≡ vote_in votes.entries p n voter
  pub baselines : Baselines (db.trees 8)
  pub baselines_are : (team : List ℕ) → t.baselines team ≡ baseline_in baselines.entries team
  pub holds : Holds (db.trees 10)
  pub holds_are : (p : ProfileName) → t.holds p ≡ is_some (find (is_profile p) holds.entries)

-- no transaction is open, and no limit on steps is set
pub record IsIdle (s : State) : Type 0 where
  pub autocommit : s.in_transaction ≡ false
  pub unlimited : s.step_limit ≡ None

-- the connection is open, and its database is that of the tables
pub record Shows (s : State) (t : Tables) : Type 0 where
  pub is_open : IsTrue s.is_open
  pub settled : s.now ≡ s.committed
  pub office : IsOffice s.now t

-- the connection shows the tables, unless a fault of the disk has shut it
abbrev pub ShowsIfOpen : State → Tables → Type 0
ShowsIfOpen s t = IsTrue s.is_open → Shows s t

-- what a crash may leave is these tables, under the schema of an office
abbrev pub AreOffice : Trees → Tables → Type 0
AreOffice trees t = IsOffice (record { schema = office_schema; trees = trees }) t

-- a crash leaves these tables and no others
abbrev pub LeavesOnly : State → Tables → Type 0
LeavesOnly s t = (trees : Trees) → s.may_leave trees → AreOffice trees t

-- a crash may leave what it could leave before, or what is said here
abbrev pub MayLeave : State → State → (Trees → Type 0) → Type 0
MayLeave old new Said =
    HasCleanDisk new → (trees : Trees) → new.may_leave trees → old.may_leave trees ⊎ Said trees

-- a crash may leave nothing that it couldn't leave before
abbrev pub LeavesNoMore : State → State → Type 0
LeavesNoMore old new =
    HasCleanDisk new → (trees : Trees) → new.may_leave trees → old.may_leave trees
