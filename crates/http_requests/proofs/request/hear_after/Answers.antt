use Rattle.std.proofs.Common.{Ok, Err}
use Rattle.std.proofs.lemmas.Result.{err_from_is_err_and}
use Rattle.http_requests.proofs.HearFacts.{head_left, head_read, target_text, route_left, token_left, body_left, ask_left, asks_this, routed_at}
use Rattle.http_requests.proofs.request.hear_after.Goals as goal

pub returns-in_err-head-clause-heard : goal.returns-in_err-head-clause-heard
returns-in_err-head-clause-heard g c =
    let left = err_from_is_err_and c.from_residual.result c.from_residual.ensures.1 in
    rw (left.1, left.2) (head_left _ _ _ c.in_err-head.field-0.0 c.in_err-head.ensures.answer)

pub returns-in_err-route-clause-heard : goal.returns-in_err-route-clause-heard
returns-in_err-route-clause-heard g c =
    let left = err_from_is_err_and c.from_residual-in_err-route.result c.from_residual-in_err-route.ensures.1 in
    let read = head_read _ _ c.in_ok-head.ensures.answer in
    rw (left.1, left.2) (route_left _ _ _ _ read c.in_err-route.field-0.0 (routed_at _ _ _ _ (Err c.in_err-route.field-0.0) c.of.ensures c.of-2.ensures c.in_err-route.ensures (target_text _ _ read)))

pub returns-in_err-token-clause-heard : goal.returns-in_err-token-clause-heard
returns-in_err-token-clause-heard g c =
    let left = err_from_is_err_and c.from_residual-in_err-token.result c.from_residual-in_err-token.ensures.1 in
    let read = head_read _ _ c.in_ok-head.ensures.answer in
    let routed = routed_at _ _ _ _ (Ok c.in_ok-route.route) c.of.ensures c.of-2.ensures c.in_ok-route.ensures (target_text _ _ read) in
    rw (left.1, left.2) (token_left _ _ _ _ read c.in_ok-route.route routed c.in_err-token.field-0.0 c.in_err-token.ensures)

pub returns-in_err-body-clause-heard : goal.returns-in_err-body-clause-heard
returns-in_err-body-clause-heard g c =
    let left = err_from_is_err_and c.from_residual-in_err-body.result c.from_residual-in_err-body.ensures.1 in
    let read = head_read _ _ c.in_ok-head.ensures.answer in
    let routed = routed_at _ _ _ _ (Ok c.in_ok-route.route) c.of.ensures c.of-2.ensures c.in_ok-route.ensures (target_text _ _ read) in
    rw (left.1, left.2)
    (body_left _ _ _ _ read c.in_ok-route.route routed c.in_ok-token.token c.in_ok-token.ensures _
    c.in_err-body.field-0.0 c.in_err-body.ensures.body)

pub returns-in_err-ask-clause-heard : goal.returns-in_err-ask-clause-heard
returns-in_err-ask-clause-heard g c =
    let left = err_from_is_err_and c.from_residual-in_err-ask.result c.from_residual-in_err-ask.ensures.1 in
    let read = head_read _ _ c.in_ok-head.ensures.answer in
    let routed = routed_at _ _ _ _ (Ok c.in_ok-route.route) c.of.ensures c.of-2.ensures c.in_ok-route.ensures (target_text _ _ read) in
    rw (left.1, left.2)
    (ask_left _ _ _ _ read c.in_ok-route.route routed c.in_ok-token.token c.in_ok-token.ensures _
    c.in_ok-body.body.items c.in_ok-body.ensures.body c.in_err-ask.field-0.0 c.in_err-ask.ensures)

pub returns-clause-heard : goal.returns-clause-heard
returns-clause-heard g c =
    let read = head_read _ _ c.in_ok-head.ensures.answer in
    let routed = routed_at _ _ _ _ (Ok c.in_ok-route.route) c.of.ensures c.of-2.ensures c.in_ok-route.ensures (target_text _ _ read) in
    asks_this _ _ _ _ read c.in_ok-route.route routed c.in_ok-token.token c.in_ok-token.ensures _
    c.in_ok-body.body.items c.in_ok-body.ensures.body _ c.in_ok-ask.ensures
