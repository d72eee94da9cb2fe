-- The writes of a store, and when SQLite refuses one.
use Rattle.std.specs.Prelude.{◌≡◌, ◌⊎◌, ℕ, List, [], ◌∷◌, Some, Ok}
use Rattle.sqlite.specs.declared.error.Error.{Error}
use Rattle.sqlite.specs.declared.types.Value.TheVariants.{Null}
use Rattle.sqlite.specs.Effect.{Database}
use Rattle.sqlite.specs.Held.{Held, state}
use Rattle.sqlite.specs.Order.{Row}
use Rattle.sqlite.specs.State.{ExecutesInside}
use Rattle.sqlite.specs.Store.{Ghosts}
use Rattle.sqlite_rules.specs.Lists.{Has}
use Rattle.office_words.specs.declared.name.ProfileName.{ProfileName}
use Rattle.office_words.specs.declared.fault.Fault.{Fault}
use Rattle.office_words.specs.declared.fault.Fault.TheVariants.{NoMemory, Disk, Full, NotAnOffice}
use Rattle.office_words.specs.declared.row.UserRow.{UserRow}
use Rattle.office_words.specs.declared.row.RevisionRow.{RevisionRow}
use Rattle.office_words.specs.Tables.{Tables}
use Rattle.office_words.specs.Changes.{with_user, with_issued, with_withdrawn, with_vote}
use Rattle.office_words.specs.Changes.{with_baseline, with_hold, without_hold}
use Rattle.office_words.specs.Reads.{Adds}
use Rattle.office_rows.specs.Faults.{fault_of_error}
use Rattle.office_rows.specs.Refusals.{HasLongRowid, IsBig, LacksRowid}
use Rattle.office_rows.specs.Statements.{Statement, begun, IsCause, IsRefused}
use Rattle.office_store.specs.Calls.{Into}
use Rattle.office_store.specs.Entries.{user_row, revision_row, VoteEntry, vote_row}
use Rattle.office_store.specs.Entries.{baseline_entry, baseline_row, hold_row}
use Rattle.office_store.specs.Shown.{IsIdle, Shows}
use Rattle.office_store.specs.Writes.{putting_user, adding_revision, issuing, withdrawing}
use Rattle.office_store.specs.Writes.{putting_vote, putting_baseline, holding, releasing}

pub data Write : Type 0 where
  puts_user : UserRow → Write
  adds_revision : ProfileName → RevisionRow → Write
  issues : ProfileName → ℕ → Write
  withdraws : ProfileName → ℕ → Write
  puts_vote : VoteEntry → Write
  puts_baseline : ProfileName → ℕ → Write
  puts_hold : ProfileName → Write
  deletes_hold : ProfileName → Write

abbrev pub statements_of : Write → List Statement
statements_of (puts_user u) = putting_user u
statements_of (adds_revision p r) = adding_revision p r
statements_of (issues p n) = issuing p n
statements_of (withdraws p n) = withdrawing p n
statements_of (puts_vote v) = putting_vote v
statements_of (puts_baseline p n) = putting_baseline p n
statements_of (puts_hold p) = holding p
statements_of (deletes_hold p) = releasing p

-- a write makes the second tables of the first
abbrev pub Makes : Write → Tables → Tables → Type 0
Makes (puts_user u) = Into (with_user u)
Makes (adds_revision p r) = Adds p r
Makes (issues p n) = Into (with_issued p n)
Makes (withdraws p n) = Into (with_withdrawn p n)
Makes (puts_vote v) = Into (with_vote v.0.profile v.0.number v.0.voter v.1)
Makes (puts_baseline p n) = Into (with_baseline p n)
Makes (puts_hold p) = Into (with_hold p)
Makes (deletes_hold p) = Into (without_hold p)

-- the tree of the table that it writes
abbrev pub tree_of : Write → ℕ
tree_of (puts_user u) = 1
tree_of (adds_revision p r) = 4
tree_of (issues p n) = 4
tree_of (withdraws p n) = 4
tree_of (puts_vote v) = 6
tree_of (puts_baseline p n) = 8
tree_of (puts_hold p) = 10
tree_of (deletes_hold p) = 10

-- the rows that a write may put into a table with these rows: a new one, whose rowid SQLite
-- chooses. Of revisions also each that is there, in another state
abbrev pub rows_of : Write → List Row → List Row
rows_of (puts_user u) rows = (Null ∷ user_row u) ∷ []
rows_of (adds_revision p r) rows = (Null ∷ revision_row (p, r)) ∷ rows
rows_of (issues p n) rows = rows
rows_of (withdraws p n) rows = rows
rows_of (puts_vote v) rows = (Null ∷ vote_row v) ∷ []
rows_of (puts_baseline p n) rows = (Null ∷ baseline_row (baseline_entry p n)) ∷ []
rows_of (puts_hold p) rows = (Null ∷ hold_row p) ∷ []
rows_of (deletes_hold p) rows = []

-- a table with these rows has no rowid for one of those
abbrev pub LacksRowidFor : Write → List Row → Type 0
LacksRowidFor (issues p n) rows = HasLongRowid rows
LacksRowidFor (withdraws p n) rows = HasLongRowid rows
LacksRowidFor (deletes_hold p) rows = ⊥
LacksRowidFor _ rows = LacksRowid rows

-- for this fault a database has no place for a row of the write: it has no rowid for it, or the row
-- is too big
abbrev pub LacksPlace : Write → Database → Fault → Type 0
LacksPlace w db (NoMemory _) = ⊥
LacksPlace w db Disk = LacksRowidFor w (db.trees (tree_of w))
LacksPlace w db Full = (row : Row) × Has (rows_of w (db.trees (tree_of w))) row × IsBig row
LacksPlace w db NotAnOffice = ⊥

module _ {S : Type 0} (g : Ghosts S) (w : Write) where
  -- from this connection on, SQLite refuses one of the statements since there is no place for a row
  abbrev pub RefusedForPlace : List Statement → Held S → Error → Type 0
  RefusedForPlace [] h e = ⊥
  RefusedForPlace (s ∷ ss) h e =
      (IsRefused g s h e × LacksPlace w (state g h).now (fault_of_error e))
      ⊎ ((mid : Held S) × (count : ℕ)
      × ExecutesInside 0 s.sql s.params (state g h) (state g mid) (Ok count)
      × RefusedForPlace ss mid e)

  -- over a connection it refuses the write so, with this fault
  pub record LacksPlaceFor (h : Held S) (f : Fault) : Type 0 where
    pub error : Error
    pub refused : RefusedForPlace (statements_of w) (begun h) error
    pub fault : f ≡ fault_of_error error

  -- a write is stopped by this fault: a row has no place, or a statement or the commit has no
  -- memory
  abbrev pub Stops : Held S → Fault → Type 0
  Stops h (NoMemory refused) =
      (end : Held S) × IsCause g (statements_of w) h end (NoMemory refused)
  Stops h Disk = LacksPlaceFor h Disk
  Stops h Full = LacksPlaceFor h Full
  Stops h NotAnOffice = ⊥

-- no two users show one token
abbrev pub HaveOwnTokens : Tables → Type 0
HaveOwnTokens t = (name other : List ℕ) (u v : UserRow)
    → t.users name ≡ Some u → t.users other ≡ Some v → u.digest ≡ v.digest → name ≡ other

-- over what a connection has, which is the first tables, SQLite has no place, with this fault, for
-- a row of a write that makes the second, or no memory for it
pub record RefusesToMake {S : Type 0} (g : Ghosts S) (conn : Held S) (t u : Tables) (f : Fault)
    : Type 0 where
  pub write : Write
  pub makes : Makes write t u
  -- as reads leave that connection
  pub over : Held S
  pub now : (state g over).now ≡ (state g conn).now
  pub committed : (state g over).committed ≡ (state g conn).committed
  pub idle : IsIdle (state g over)
  pub shows : Shows (state g over) t
  pub refused : Stops g write over f
