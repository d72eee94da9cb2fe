-- When a store is an office.
use Rattle.std.specs.Prelude.{◌≡◌, ◌≢◌, ◌<◌, ◌^◌, ◌&&◌, cond, if◌then◌else◌, ℕ, pos, Bool, true}
use Rattle.std.specs.Prelude.{false, List, [], ◌∷◌, Option, None, Some, Result, Ok, Err}
use Rattle.std.specs.Prelude.{slice_get, is_some, codes, option_and_then}
use Rattle.std.specs.List.{list_all, Contains}
use Rattle.sqlite.specs.declared.types.Value.TheVariants.{Int}
use Rattle.sqlite.specs.Order.{Row}
use Rattle.sqlite.specs.Schema.{Schema}
use Rattle.sqlite.specs.State.{State}
use Rattle.sqlite.specs.Table.{Table}
use Rattle.sqlite_schema.specs.Names.{table_named, column_named, index_named}
use Rattle.office_words.specs.declared.fault.Fault.{Fault}
use Rattle.office_words.specs.declared.fault.Fault.TheVariants.{NotAnOffice}
use Rattle.office_words.specs.Tables.{Tables}
use Rattle.office_rows.specs.Causes.{HasFailed}
use Rattle.office_rows.specs.Faults.{FindsRow}
use Rattle.office_rows.specs.Told.{TellsOnly, TellsRow}
use Rattle.sqlite_value.specs.Order.{column}
use Rattle.office_store.specs.Schema.{office_schema}
use Rattle.office_founding.specs.declared.fault.OpeningFault.{OpeningFault}
use Rattle.office_founding.specs.declared.fault.OpeningFault.TheVariants.{OldSchema, NoIndex, Store}
use Rattle.office_founding.specs.declared.form.Form.{Form}
use Rattle.office_founding.specs.declared.form.TheConstants.{OFFICE_ROW}

-- the table of this name, if the schema has one
abbrev pub table_in : Schema → List ℕ → Option Table
table_in schema table = option_and_then (slice_get schema.tables) (table_named schema table)

-- whether the schema has a table of this name with a column of that one
abbrev pub has_column : Schema → List ℕ → List ℕ → Bool
has_column schema table column =
    is_some (option_and_then (λ t. column_named t column) (table_in schema table))

-- whether the schema has a table of this name with each of the columns
abbrev pub has_columns : Schema → List ℕ → List (List ℕ) → Bool
has_columns schema table columns = list_all (has_column schema table) columns

-- whether the schema has the five tables of schema 1 with their columns
abbrev pub has_old_tables : Schema → Bool
has_old_tables schema =
    has_columns schema (codes "office") (codes "key" ∷ codes "schema" ∷ codes "listed" ∷ [])
    && has_columns schema (codes "users")
    (codes "name" ∷ codes "team" ∷ codes "roles" ∷ codes "token" ∷ [])
    && has_columns schema (codes "revisions")
    (codes "team" ∷ codes "profile" ∷ codes "number" ∷ codes "author" ∷ codes "state"
    ∷ codes "body" ∷ codes "digest" ∷ [])
    && has_columns schema (codes "votes")
    (codes "team" ∷ codes "profile" ∷ codes "number" ∷ codes "voter" ∷ codes "approve"
    ∷ codes "security" ∷ [])
    && has_columns schema (codes "baselines")
    (codes "team" ∷ codes "profile" ∷ codes "number" ∷ [])

-- whether the schema has the table of held profiles with its columns
abbrev pub has_holds : Schema → Bool
has_holds schema = has_columns schema (codes "holds") (codes "team" ∷ codes "profile" ∷ [])

-- whether the schema has the six tables of schema 2 with their columns
abbrev pub has_tables : Schema → Bool
has_tables schema = has_old_tables schema && has_holds schema

-- whether the schema has indexes with the names of the two of an office
abbrev pub has_indexes : Schema → Bool
has_indexes schema =
    is_some (index_named schema (codes "revisions_by_state"))
    && is_some (index_named schema (codes "revisions_by_author"))

-- no bit but those of capabilities
abbrev pub AreCaps : ℕ → Type 0
AreCaps listed = listed < 2 ^ 41

-- the listed capabilities alone, as a query shows them
abbrev pub listed_row : ℕ → Row
listed_row listed = Int (pos listed) ∷ []

-- the key, the number of the schema and the listed capabilities, as a query shows them
abbrev pub form_row : ℕ → Row
form_row listed = Int (pos 1) ∷ Int (pos 2) ∷ Int (pos listed) ∷ []

-- the row of the listed capabilities
abbrev pub IsRowListed : Tables → Option Row → Type 0
IsRowListed t None = ⊥
IsRowListed t (Some row) = row ≡ Int (pos t.listed) ∷ []

-- the row of the office
abbrev pub IsFormRow : Tables → Option Row → Type 0
IsFormRow t None = ⊥
IsFormRow t (Some row) = row ≡ form_row t.listed

-- a row of the table of the office is of its form: its key, which is its rowid, the number of the
-- schema, and these listed capabilities
pub record HasOfficeRow (rows : List Row) (listed : ℕ) : Type 0 where
  pub row : Row
  pub there : Contains rows row
  pub key : column row 0 ≡ Int (pos 1)
  pub schema : column row 2 ≡ Int (pos 2)
  pub listed_are : column row 3 ≡ Int (pos listed)

-- the tables and the indexes are there, and the row of the office is of its form, with these listed
-- capabilities
pub record HasForm (old new : State) (listed : ℕ) : Type 0 where
  pub tables : has_tables old.now.schema ≡ true
  pub indexes : has_indexes old.now.schema ≡ true
  pub below : AreCaps listed
  -- the row is the first that the query shows
  pub row : FindsRow OFFICE_ROW.now [] old new (Ok (Some (form_row listed)))
  -- the row stands in its table, where the tables are those that a founding makes
  pub stands : old.now.schema ≡ office_schema → HasOfficeRow (old.now.trees 0) listed

-- the key, the number of the schema, which is 1 or 2, and the listed capabilities, as a query shows
-- them
abbrev pub numbered_row : Form → Row
numbered_row form = Int (pos 1) ∷ Int (pos (cond form.is_old 1 2)) ∷ Int (pos form.listed) ∷ []

-- no bit but those of capabilities
abbrev pub HasCaps : Form → Type 0
HasCaps form = AreCaps form.listed

-- what the row of the office says: the number of its schema and its listed capabilities, or that it
-- isn't of its form
abbrev pub TellsNumber : Option Row → Result Form Fault → Type 0
TellsNumber = TellsOnly numbered_row HasCaps

abbrev pub old_form : ℕ → Form
old_form listed = record { is_old = true; listed = listed }

abbrev pub new_form : ℕ → Form
new_form listed = record { is_old = false; listed = listed }

-- the five tables are there, and the row of the office is of this form
pub record FindsForm (old mid : State) (form : Form) : Type 0 where
  pub tables : has_old_tables old.now.schema ≡ true
  pub caps : HasCaps form
  pub row : FindsRow OFFICE_ROW.now [] old mid (Ok (Some (numbered_row form)))

-- whether the schema has what schema 2 adds to the five tables: the table of held profiles, and
-- then the two indexes
abbrev pub added_by : Schema → Result (Unit {0}) OpeningFault
added_by schema =
    if has_holds schema
    then (if has_indexes schema then Ok tt else Err NoIndex)
    else Err (Store NotAnOffice)

-- the listed capabilities where all that schema 2 adds is there, else what isn't
abbrev pub listed_where : ℕ → Result (Unit {0}) OpeningFault → Result ℕ OpeningFault
listed_where listed (Ok there) = Ok listed
listed_where listed (Err why) = Err why

-- what is answered of the form of the office's row: an office of schema 1 is old, whatever else
-- stands in the schema
abbrev pub opening_of : Result (Unit {0}) OpeningFault → Result Form Fault
    → Result ℕ OpeningFault
opening_of added (Err f) = Err (Store f)
opening_of added (Ok form) = if form.is_old then Err OldSchema else listed_where form.listed added

-- the result is that of the row which the query found, or the fault that SQLite named
pub record TellsOpening (old new : State) (result : Result ℕ OpeningFault) : Type 0 where
  pub form : Result Form Fault
  pub row : TellsRow OFFICE_ROW.now [] old new TellsNumber form
  pub is : result ≡ opening_of (added_by old.now.schema) form

-- the result as a call of the store gives it, where an office that isn't opened counts as none
abbrev pub as_store : {A : Type 0} → Result A OpeningFault → Result A Fault
as_store (Ok a) = Ok a
as_store (Err OldSchema) = Err NotAnOffice
as_store (Err NoIndex) = Err NotAnOffice
as_store (Err (Store f)) = Err f

-- an opening is refused for no memory, for the disk, or over a connection that was shut
abbrev pub IsFailure : State → State → OpeningFault → Type 0
IsFailure old new OldSchema = ⊥
IsFailure old new NoIndex = ⊥
IsFailure old new (Store f) = HasFailed old new f

-- an opening is refused by a failure, or since the office is of schema 1
abbrev pub IsOldOrFailure : OpeningFault → Type 0
IsOldOrFailure OldSchema = Unit {0}
IsOldOrFailure NoIndex = ⊥
IsOldOrFailure (Store f) = f ≢ NotAnOffice
