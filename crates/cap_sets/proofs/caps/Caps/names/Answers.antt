use Rattle.cap_sets.proofs.Listing.{names_of-members}
use Rattle.cap_sets.proofs.caps.Caps.names.Goals as goal

pub returns-clause-members : goal.returns-clause-members
returns-clause-members c = rw c.new.ensures (names_of-members c.args.self)
