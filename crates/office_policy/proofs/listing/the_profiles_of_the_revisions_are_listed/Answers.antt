use Rattle.office_policy.proofs.GroupedFacts.{listing_is}
use Rattle.office_policy.proofs.listing.the_profiles_of_the_revisions_are_listed.Goals as goal

pub returns : goal.returns
returns c = listing_is
