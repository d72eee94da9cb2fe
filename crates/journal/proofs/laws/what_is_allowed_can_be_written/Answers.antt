use Rattle.journal.proofs.Lengths.{allowed_entry, both_fit, done_entry, founding_entry, strike_entry}
use Rattle.journal.proofs.laws.what_is_allowed_can_be_written.Goals as goal

pub returns-clause-allowed : goal.returns-clause-allowed
returns-clause-allowed c = allowed_entry

pub returns-clause-founding : goal.returns-clause-founding
returns-clause-founding c = founding_entry

pub returns-clause-strike : goal.returns-clause-strike
returns-clause-strike c = strike_entry

pub returns-clause-done : goal.returns-clause-done
returns-clause-done c = done_entry

pub returns-clause-both : goal.returns-clause-both
returns-clause-both c = both_fit
