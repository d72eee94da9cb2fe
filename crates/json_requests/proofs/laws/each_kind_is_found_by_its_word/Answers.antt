use Rattle.json_requests.proofs.KindFacts.{each_found, found_kind}
use Rattle.json_requests.proofs.laws.each_kind_is_found_by_its_word.Goals as goal

pub returns-clause-found : goal.returns-clause-found
returns-clause-found c = found_kind

pub returns-clause-known : goal.returns-clause-known
returns-clause-known c = each_found
