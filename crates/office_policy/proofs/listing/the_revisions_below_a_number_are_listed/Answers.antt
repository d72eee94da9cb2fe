use Rattle.office_policy.proofs.NewestFacts.{below_is, all_below}
use Rattle.office_policy.proofs.listing.the_revisions_below_a_number_are_listed.Goals as goal

pub returns-clause-below : goal.returns-clause-below
returns-clause-below c = below_is

pub returns-clause-all : goal.returns-clause-all
returns-clause-all c = all_below
