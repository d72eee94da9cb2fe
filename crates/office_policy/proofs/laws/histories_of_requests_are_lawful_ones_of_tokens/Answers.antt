use Rattle.office_policy.proofs.TokenFacts.{requests_of_tokens}
use Rattle.office_policy.proofs.laws.histories_of_requests_are_lawful_ones_of_tokens.Goals as goal

pub returns : goal.returns
returns c = requests_of_tokens
