-- When a connection is an office.
use Rattle.sqlite.specs.State.{State, HasCleanDisk}
use Rattle.office_store.specs.Shown.{IsIdle, ShowsIfOpen}
use Rattle.office_policy.specs.History.{History}
use Rattle.office_policy.specs.Lawful.{IsLawfulHistory}
use Rattle.office_policy.specs.TablesOf.{tables_of}

-- An idle connection of a lawful history, whose tables it shows where it is open. A fault of the
-- disk may shut it; another connection to what it leaves is then an office again.
pub record IsOffice (h : History) (s : State) : Type 0 where
  pub idle : IsIdle s
  pub lawful : IsLawfulHistory h
  pub tables : HasCleanDisk s → ShowsIfOpen s (tables_of h)
