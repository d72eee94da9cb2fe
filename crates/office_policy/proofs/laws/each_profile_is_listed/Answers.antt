use Rattle.office_policy.proofs.ListingFacts.{all_listed}
use Rattle.office_policy.proofs.laws.each_profile_is_listed.Goals as goal

pub returns : goal.returns
returns c = all_listed
