use Rattle.office_policy.proofs.ListingFacts.{in_order}
use Rattle.office_policy.proofs.laws.profiles_are_listed_in_order.Goals as goal

pub returns : goal.returns
returns c = in_order
