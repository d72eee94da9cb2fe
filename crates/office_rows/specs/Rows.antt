-- Why a query of all its rows has no answer.
use Rattle.std.specs.Prelude.{◌≡◌, ℕ, List}
use Rattle.sqlite.specs.Order.{Row}
use Rattle.sqlite.specs.declared.error.Error.{Error}
use Rattle.sqlite.specs.State.{State, FailsToQuery}
use Rattle.office_words.specs.declared.fault.Fault.{Fault}
use Rattle.office_rows.specs.Faults.{fault_of_error}

-- the query failed, and this is the fault
pub record IsFaultOf (sql : List ℕ) (params : Row) (old new : State) (f : Fault) : Type 0 where
  pub error : Error
  pub failed : FailsToQuery sql params old new error
  pub fault : f ≡ fault_of_error error
