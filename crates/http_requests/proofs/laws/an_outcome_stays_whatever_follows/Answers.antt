use Rattle.http_requests.proofs.ExchangeFacts.{exchange_stays}
use Rattle.http_requests.proofs.laws.an_outcome_stays_whatever_follows.Goals as goal

pub returns : goal.returns
returns c = exchange_stays
