use Rattle.http_requests.proofs.QueryFacts.{no_query, with_query}
use Rattle.http_requests.proofs.query.split_query.Goals as goal

pub returns-in-Some-clause-path : goal.returns-in-Some-clause-path
returns-in-Some-clause-path c = (with_query c.args.target.now c.split_once.result _ c.split_once.ensures.cases c.in-Some.is).0

pub returns-in-Some-clause-query : goal.returns-in-Some-clause-query
returns-in-Some-clause-query c = (with_query c.args.target.now c.split_once.result _ c.split_once.ensures.cases c.in-Some.is).1

pub returns-in-None-clause-path : goal.returns-in-None-clause-path
returns-in-None-clause-path c = (no_query c.args.target.now c.split_once.result c.split_once.ensures.cases c.in-None.is).0

pub returns-in-None-clause-query : goal.returns-in-None-clause-query
returns-in-None-clause-query c = (no_query c.args.target.now c.split_once.result c.split_once.ensures.cases c.in-None.is).1
