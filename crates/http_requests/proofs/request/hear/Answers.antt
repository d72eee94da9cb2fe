use Rattle.http_requests.proofs.HearFacts.{heard_on}
use Rattle.http_requests.proofs.request.hear.Goals as goal

pub returns-clause-heard : goal.returns-clause-heard
returns-clause-heard g c =
    heard_on _ _ _ _ _ c.in_ok-head.ensures.head.0 c.in_ok-head.ensures.head.1 c.hear_after.result
    (rw (c.split_at.ensures.front, c.split_at.ensures.back, c.deref.ensures.value) at c.hear_after.ensures.heard)
