use Rattle.office_policy.proofs.LawFacts.{lawful_apart}
use Rattle.office_policy.proofs.laws.digests_are_apart.Goals as goal

pub returns : goal.returns
returns c = lawful_apart
