-- A store before an office is founded in it, and the statements that found one.
use Rattle.std.specs.Prelude.{◌≡◌, ◌≢◌, ◌⊎◌, Bool, false, ℕ, pos, List, [], ◌∷◌, codes, is_some}
use Rattle.std.specs.Prelude.{IsTrue}
use Rattle.std.specs.List.{list_any}
use Rattle.sqlite.specs.declared.types.Value.TheVariants.{Int}
use Rattle.sqlite.specs.Order.{Row}
use Rattle.sqlite.specs.Schema.{Schema}
use Rattle.sqlite.specs.Store.{Ghosts}
use Rattle.sqlite.specs.Held.{Held, state}
use Rattle.sqlite_schema.specs.Names.{table_named}
use Rattle.office_words.specs.declared.fault.Fault.TheVariants.{NotAnOffice}
use Rattle.office_words.specs.declared.row.UserRow.{UserRow}
use Rattle.office_words.specs.Tables.{Tables}
use Rattle.office_words.specs.Changes.{founded_tables}
use Rattle.office_rows.specs.Statements.{Statement, HasMet}
use Rattle.office_founding.specs.declared.fault.FoundingFault.{FoundingFault}
use Rattle.office_founding.specs.declared.fault.FoundingFault.TheVariants.{AlreadyFounded, Store}
use Rattle.office_store.specs.declared.schema.TheConstants.{CREATE_OFFICE, CREATE_USERS}
use Rattle.office_store.specs.declared.schema.TheConstants.{CREATE_REVISIONS, CREATE_VOTES}
use Rattle.office_store.specs.declared.schema.TheConstants.{CREATE_BASELINES, CREATE_HOLDS}
use Rattle.office_store.specs.declared.schema.TheConstants.{CREATE_BY_STATE, CREATE_BY_AUTHOR}
use Rattle.office_founding.specs.declared.founding.TheConstants.{INSERT_OFFICE, INSERT_USER}
use Rattle.office_store.specs.Schema.{no_schema}
use Rattle.office_store.specs.Entries.{user_row}
use Rattle.office_store.specs.Steps.{statement}

-- whether one of the six tables is there
abbrev pub has_table : Schema → Bool
has_table schema =
    list_any (λ name. is_some (table_named schema name))
    (codes "office" ∷ codes "users" ∷ codes "revisions" ∷ codes "votes" ∷ codes "baselines"
    ∷ codes "holds" ∷ [])

-- something is there, and none of the six tables
abbrev pub IsForeign : Schema → Type 0
IsForeign schema = (has_table schema ≡ false) × (schema ≢ no_schema)

-- the first user of a new office, who is a registrar
abbrev pub first_user : List ℕ → List ℕ → List ℕ → UserRow
first_user name team digest = record { name = name; team = team; roles = 1; digest = digest }

-- the tables of a new office: its first user and its listed capabilities
abbrev pub new_office : List ℕ → List ℕ → List ℕ → ℕ → Tables
new_office name team digest listed = founded_tables (first_user name team digest) listed

-- the tables, the indexes, the row of the office and that of its first user, of these values
abbrev pub founding : Row → Row → Row → List Statement
founding none office user =
    statement CREATE_OFFICE.now none
    ∷ statement CREATE_USERS.now none
    ∷ statement CREATE_REVISIONS.now none
    ∷ statement CREATE_VOTES.now none
    ∷ statement CREATE_BASELINES.now none
    ∷ statement CREATE_HOLDS.now none
    ∷ statement CREATE_BY_STATE.now none
    ∷ statement CREATE_BY_AUTHOR.now none
    ∷ statement INSERT_OFFICE.now office
    ∷ statement INSERT_USER.now user
    ∷ []

-- the statements of a founding with this first user and these listed capabilities
abbrev pub founding_office : UserRow → ℕ → List Statement
founding_office user listed = founding [] (Int (pos listed) ∷ []) (user_row user)

-- one of the six tables is there; something else is; or the store is empty, and between the two
-- connections the transaction of the statements met this fault
abbrev pub FailsToFound : {S : Type 0} → Ghosts S → UserRow → ℕ → (old new : Held S)
    → FoundingFault → Type 0
FailsToFound g user listed old new AlreadyFounded = IsTrue (has_table (state g old).now.schema)
FailsToFound g user listed old new (Store f) =
    (IsForeign (state g old).now.schema × (f ≡ NotAnOffice))
    ⊎ (((state g old).now.schema ≡ no_schema) × HasMet g (founding_office user listed) old new f)
