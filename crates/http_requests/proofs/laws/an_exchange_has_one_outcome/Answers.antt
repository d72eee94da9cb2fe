use Rattle.http_requests.proofs.ExchangeFacts.{one_exchange}
use Rattle.http_requests.proofs.laws.an_exchange_has_one_outcome.Goals as goal

pub returns : goal.returns
returns c = one_exchange
