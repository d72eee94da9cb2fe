use Rattle.office_policy.proofs.Numbered.{count_limited}
use Rattle.office_policy.proofs.laws.numbers_are_limited.Goals as goal

pub returns : goal.returns
returns c = λ h p lawful. count_limited h lawful p
