-- What a read makes of the rows that its query found.
use Rattle.std.specs.Prelude.{◌≡◌, ◌≢◌, ◌⊎◌, ℕ, Bool, is_some, map, List, Option, Some, None}
use Rattle.std.specs.Prelude.{Result, Ok, Err}
use Rattle.std.specs.List.{AllByRecursion}
use Rattle.sqlite.specs.Order.{Row}
use Rattle.sqlite.specs.State.{State, Shown}
use Rattle.office_words.specs.declared.fault.Fault.{Fault}
use Rattle.office_words.specs.declared.fault.Fault.TheVariants.{NoMemory, NotAnOffice}
use Rattle.office_rows.specs.Faults.{FindsRow}
use Rattle.office_rows.specs.Rows.{IsFaultOf}
use Rattle.no_memory.specs.Witness.{witness}

-- the faults of reading a row
abbrev pub IsOfRow : Fault → Type 0
IsOfRow f = (f ≡ NoMemory witness) ⊎ (f ≡ NotAnOffice)

-- a row isn't read: it is that of nothing of the form, or there is no memory
abbrev pub IsUnread : {X R : Type 0} → (X → R) → (X → Type 0) → R → Fault → Type 0
IsUnread {X} encode IsFormed row f =
    (f ≡ NoMemory witness) ⊎ ((f ≡ NotAnOffice) × ((x : X) → IsFormed x → row ≢ encode x))

-- a row is read as the value that it is the row of
abbrev pub IsReadAs : {X R : Type 0} → (X → R) → (X → Type 0) → R → Result X Fault → Type 0
IsReadAs encode IsFormed row (Ok x) = row ≡ encode x
IsReadAs encode IsFormed row (Err f) = IsUnread encode IsFormed row f

-- a row, where there is one, is read as the value that it is the row of; where there is none, none
-- is read
abbrev pub TellsOne : {X R : Type 0} → (X → R) → (X → Type 0) → Option R
    → Result (Option X) Fault → Type 0
TellsOne encode IsFormed None result = result ≡ Ok None
TellsOne encode IsFormed (Some row) (Ok (Some x)) = row ≡ encode x
TellsOne encode IsFormed (Some row) (Ok None) = ⊥
TellsOne encode IsFormed (Some row) (Err f) = IsUnread encode IsFormed row f

-- a row is read as the value that it is the row of; where there is none, the tables are no office's
abbrev pub TellsOnly : {X R : Type 0} → (X → R) → (X → Type 0) → Option R
    → Result X Fault → Type 0
TellsOnly encode IsFormed None result = result ≡ Err NotAnOffice
TellsOnly encode IsFormed (Some row) result = IsReadAs encode IsFormed row result

-- whether there is one
abbrev pub TellsWhether : {R : Type 0} → Option R → Result Bool Fault → Type 0
TellsWhether row result = result ≡ Ok (is_some row)

-- several rows are read, each as the value that it is the row of
abbrev pub TellsAll : {X R : Type 0} → (X → R) → (X → Type 0) → List R
    → Result (List X) Fault → Type 0
TellsAll encode IsFormed = IsReadAs (map encode) (AllByRecursion IsFormed)

-- what an answer shows of its value
abbrev pub map_ok : {X Y : Type 0} → Result X Fault → (X → Y) → Result Y Fault
map_ok (Ok x) f = Ok (f x)
map_ok (Err e) f = Err e

-- what was found is returned, and a fault is passed on
abbrev pub IsTold : {X A : Type 0} → (X → Result A Fault → Type 0)
    → Result X Fault → Result A Fault → Type 0
IsTold Tells (Ok x) result = Tells x result
IsTold Tells (Err f) result = result ≡ Err f

-- all rows of the answer, or why there is none
abbrev pub FindsRows : List ℕ → Row → State → State → Result (List Row) Fault → Type 0
FindsRows sql params old new (Ok rows) = Shown sql params old new rows
FindsRows sql params old new (Err f) = IsFaultOf sql params old new f

-- the result is of the first row that the query found, or the fault that SQLite named
pub record TellsRow {A : Type 0} (sql : List ℕ) (params : Row) (old new : State)
    (Tells : Option Row → Result A Fault → Type 0)
    (result : Result A Fault) : Type 0 where
  pub row : Result (Option Row) Fault
  pub found : FindsRow sql params old new row
  pub told : IsTold Tells row result

-- the result is of all rows that the query found, or the fault that SQLite named
pub record TellsRows {A : Type 0} (sql : List ℕ) (params : Row) (old new : State)
    (Tells : List Row → Result A Fault → Type 0) (result : Result A Fault) : Type 0 where
  pub rows : Result (List Row) Fault
  pub found : FindsRows sql params old new rows
  pub told : IsTold Tells rows result
