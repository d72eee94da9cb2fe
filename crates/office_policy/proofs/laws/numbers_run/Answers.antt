use Rattle.office_policy.proofs.Histories.{numbers}
use Rattle.office_policy.proofs.laws.numbers_run.Goals as goal

pub returns : goal.returns
returns c = numbers
