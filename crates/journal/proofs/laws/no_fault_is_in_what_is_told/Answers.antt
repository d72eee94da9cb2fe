use Rattle.journal.proofs.FaultFacts.{no_fault}
use Rattle.journal.proofs.laws.no_fault_is_in_what_is_told.Goals as goal

pub returns : goal.returns
returns c = no_fault
