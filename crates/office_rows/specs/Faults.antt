-- The faults of a store, and what a query answers.
use Rattle.std.specs.Prelude.{◌≡◌, ◌≢◌, ℕ, List, Option, Some, None, Result, Ok, Err}
use Rattle.sqlite.specs.Order.{Row}
use Rattle.sqlite.specs.declared.error.Error.{Error}
use Rattle.sqlite.specs.declared.error.Error.TheVariants as error
use Rattle.sqlite.specs.declared.error.ErrorCode.TheVariants as code
use Rattle.sqlite.specs.State.{State, QueriesRow}
use Rattle.office_words.specs.declared.fault.Fault.{Fault}
use Rattle.office_words.specs.declared.fault.Fault.TheVariants.{NoMemory, Disk, Full, NotAnOffice}
use Rattle.no_memory.specs.Witness.{witness}

abbrev pub fault_of_error : Error → Fault
fault_of_error (error.SqliteFailure code.OutOfMemory) = NoMemory witness
fault_of_error (error.SqliteFailure code.DiskFull) = Full
fault_of_error (error.SqliteFailure code.TooBig) = Full
fault_of_error (error.SqlInputError e) = NotAnOffice
fault_of_error (error.InvalidColumnIndex at) = NotAnOffice
fault_of_error (error.InvalidColumnType at kind) = NotAnOffice
fault_of_error (error.IntegralValueOutOfRange at) = NotAnOffice
fault_of_error (error.Utf8Error at) = NotAnOffice
fault_of_error _ = Disk

-- the error says nothing of the form of the tables
abbrev pub IsOfMachine : Error → Type 0
IsOfMachine e = (fault_of_error e ≢ NotAnOffice) × (e ≢ error.QueryReturnedNoRows)

-- the first row of the answer, that there is none, or why there is no answer
abbrev pub FindsRow : List ℕ → Row → State → State → Result (Option Row) Fault → Type 0
FindsRow sql params old new (Ok (Some row)) = QueriesRow sql params old new (Ok row)
FindsRow sql params old new (Ok None) =
    QueriesRow sql params old new (Err error.QueryReturnedNoRows)
FindsRow sql params old new (Err f) =
    (e : Error) × QueriesRow sql params old new (Err e) × (f ≡ fault_of_error e)
    × (e ≢ error.QueryReturnedNoRows)
