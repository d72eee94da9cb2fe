use Rattle.office_policy.proofs.VoterFacts.{tally_is}
use Rattle.office_policy.proofs.laws.tallies_are_of_the_tables.Goals as goal

pub returns : goal.returns
returns c = tally_is
