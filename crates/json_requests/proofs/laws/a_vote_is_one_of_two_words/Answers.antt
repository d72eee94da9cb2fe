use Rattle.json_requests.proofs.VoteFacts.{approving, rejecting}
use Rattle.json_requests.proofs.laws.a_vote_is_one_of_two_words.Goals as goal

pub returns-clause-approves : goal.returns-clause-approves
returns-clause-approves c = approving

pub returns-clause-rejects : goal.returns-clause-rejects
returns-clause-rejects c = rejecting
