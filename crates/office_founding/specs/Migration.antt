-- A store of schema 1, and the statements that make it one of schema 2.
use Rattle.std.specs.Prelude.{◌≡◌, ◌⊎◌, ◌<◌, ◌≤◌, ◌^◌, true, false, ℕ, pos, List, [], ◌∷◌, find}
use Rattle.std.specs.Prelude.{IsTrue, Result, Err, OnOk, OnErr}
use Rattle.sqlite.specs.declared.types.Value.TheVariants.{Null, Int}
use Rattle.sqlite.specs.Order.{Row}
use Rattle.sqlite.specs.Effect.{Database, IsDatabase}
use Rattle.sqlite.specs.Store.{Ghosts}
use Rattle.sqlite.specs.Held.{Held, state}
use Rattle.sqlite.specs.State.{State, HasCleanDisk, Survives}
use Rattle.sqlite_trees.specs.Tree.{Trees}
use Rattle.office_words.specs.declared.name.ProfileName.{ProfileName}
use Rattle.office_words.specs.declared.fault.Fault.{Fault}
use Rattle.office_words.specs.declared.fault.Fault.TheVariants.{NotAnOffice}
use Rattle.office_words.specs.Tables.{Tables}
use Rattle.office_rows.specs.Queries.{IsAsItWas}
use Rattle.office_rows.specs.Statements.{Statement, HasMet}
use Rattle.office_rows.specs.Told.{TellsRow}
use Rattle.office_founding.specs.declared.fault.MigrationFault.{MigrationFault}
use Rattle.office_founding.specs.declared.fault.MigrationFault.TheVariants.{AlreadyMigrated, Store}
use Rattle.office_founding.specs.declared.form.TheConstants.{OFFICE_ROW}
use Rattle.office_founding.specs.declared.migration.TheConstants.{RENUMBER}
use Rattle.office_store.specs.declared.schema.TheConstants.{CREATE_HOLDS, CREATE_BY_STATE}
use Rattle.office_store.specs.declared.schema.TheConstants.{CREATE_BY_AUTHOR}
use Rattle.office_store.specs.Schema.{old_schema}
use Rattle.office_store.specs.Entries.{is_named}
use Rattle.office_founding.specs.Form.{has_old_tables, old_form, new_form, FindsForm, TellsNumber}
use Rattle.office_store.specs.Shown.{Users, Revisions, Votes, Baselines, IsIdle, Shows, AreOffice}
use Rattle.office_store.specs.Shown.{LeavesOnly, LeavesNoMore, MayLeave}
use Rattle.office_store.specs.Shown.{baseline_in, revision_in, vote_in}
use Rattle.office_store.specs.Steps.{statement}

-- the row of an office of schema 1: its key, the number of the schema, and the listed capabilities
abbrev pub old_office_row : ℕ → Row
old_office_row listed = Int (pos 1) ∷ Null ∷ Int (pos 1) ∷ Int (pos listed) ∷ []

-- the database has schema 1, which its trees list and obey, and at each key what the tables have,
-- which hold no profile
pub record IsOldOffice (db : Database) (t : Tables) : Type 0 where
  pub schema : db.schema ≡ old_schema
  pub sound : IsDatabase db
  pub office : db.trees 0 ≡ old_office_row t.listed ∷ []
  pub listed : t.listed < 2 ^ 41
  pub users : Users (db.trees 1)
  pub users_are : (name : List ℕ) → t.users name ≡ find (is_named name) users.entries
  pub revisions : Revisions (db.trees 4)
  pub revisions_are : (p : ProfileName) (n : ℕ)
      → t.revisions p n ≡ revision_in revisions.entries p n
  pub votes : Votes (db.trees 6)
  pub votes_are : (p : ProfileName) (n : ℕ) (voter : List ℕ)
      → t.votes p n voter ≡ vote_in votes.entries p n voter
  pub baselines : Baselines (db.trees 8)
  pub baselines_are : (team : List ℕ) → t.baselines team ≡ baseline_in baselines.entries team
  pub none_held : (p : ProfileName) → t.holds p ≡ false

-- the connection is open, and its database is that of the tables under schema 1
pub record ShowsOld (s : State) (t : Tables) : Type 0 where
  pub is_open : IsTrue s.is_open
  pub settled : s.now ≡ s.committed
  pub office : IsOldOffice s.now t

-- the connection shows the tables under schema 1, unless a fault of the disk has shut it
abbrev pub ShowsOldIfOpen : State → Tables → Type 0
ShowsOldIfOpen s t = IsTrue s.is_open → ShowsOld s t

-- what a crash may leave is these tables, under schema 1
abbrev pub AreOldOffice : Trees → Tables → Type 0
AreOldOffice trees t = IsOldOffice (record { schema = old_schema; trees = trees }) t

-- a migration of the store
pub record IsMigration {A E : Type 0} (old new : State) (result : Result A E) : Type 0 where
  -- no transaction is open, and no limit on steps is set
  pub idle : IsIdle new
  -- a disk that is clean was clean before
  pub clean : HasCleanDisk new → HasCleanDisk old
  -- no fault is forgotten, and only a fault of the disk shuts the connection
  pub survives : Survives old new (λ _. Unit {0})
  -- a migration is done over an open connection, which stays open
  pub answered : HasCleanDisk new → OnOk result (IsTrue old.is_open × IsTrue new.is_open)
  -- one that a fault has shut stays shut
  pub shut : HasCleanDisk new → old.is_open ≡ false → new.is_open ≡ false
  -- where it is done, the tables that were shown under schema 1 are shown under schema 2, and a
  -- crash leaves them and no others
  pub done : (t : Tables) → ShowsOldIfOpen old t → HasCleanDisk new
      → OnOk result (Shows new t × LeavesOnly new t)
  -- where it isn't, they are shown under schema 1, unless a fault of the disk has shut the
  -- connection
  pub undone : (t : Tables) → ShowsOldIfOpen old t → HasCleanDisk new
      → OnErr result (ShowsOldIfOpen new t)
  -- the connection has what it had, whatever that is, where the migration isn't done
  pub same : old.now ≡ old.committed → HasCleanDisk new → OnErr result (IsAsItWas old new)
  -- a crash leaves the tables under schema 1 or under schema 2
  pub crash : (t : Tables) → ShowsOld old t → HasCleanDisk new → (trees : Trees)
      → new.may_leave trees → AreOldOffice trees t ⊎ AreOffice trees t
  -- a crash leaves nothing that it couldn't leave before, but these tables under schema 2
  pub adds : (t : Tables) → ShowsOldIfOpen old t → MayLeave old new (λ trees. AreOffice trees t)
  -- a crash leaves nothing new over a connection that was shut
  pub lost : old.is_open ≡ false → LeavesNoMore old new

-- the table of held profiles, the indexes and the number of the schema
abbrev pub migration : Row → List Statement
migration none =
    statement CREATE_HOLDS.now none ∷ statement CREATE_BY_STATE.now none
    ∷ statement CREATE_BY_AUTHOR.now none ∷ statement RENUMBER.now none ∷ []

-- the connection showed the row of an office of schema 1
abbrev pub WasOld : {S : Type 0} → Ghosts S → Held S → Type 0
WasOld {S} g old =
    (mid : Held S) × (listed : ℕ) × FindsForm (state g old) (state g mid) (old_form listed)

-- the row of the office was found, with schema 1, and then the transaction of the statements
-- met this fault
pub record MeetsInMigration {S : Type 0} (g : Ghosts S) (old new : Held S) (f : Fault)
    : Type 0 where
  pub mid : Held S
  pub listed : ℕ
  pub found : FindsForm (state g old) (state g mid) (old_form listed)
  -- no fault was forgotten
  pub counts : (state g old).faults ≤ (state g mid).faults
  pub met : HasMet g (migration []) mid new f

-- the schema is 2; or one of the five tables is missing, or the row of the office isn't found
-- in its form. Else the schema is 1, and the transaction of the statements met this fault
abbrev pub FailsToMigrate : {S : Type 0} → Ghosts S → (old new : Held S) → MigrationFault → Type 0
FailsToMigrate g old new AlreadyMigrated =
    (listed : ℕ) × FindsForm (state g old) (state g new) (new_form listed)
FailsToMigrate g old new (Store f) =
    ((has_old_tables (state g old).now.schema ≡ false) × (f ≡ NotAnOffice))
    ⊎ (((has_old_tables (state g old).now.schema ≡ true)
    × TellsRow OFFICE_ROW.now [] (state g old) (state g new) TellsNumber (Err f))
    ⊎ MeetsInMigration g old new f)
