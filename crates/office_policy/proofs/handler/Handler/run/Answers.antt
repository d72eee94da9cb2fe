use Rattle.std.proofs.Common.{◌∙◌, ◌+◌, ◌≤◌, List, ap, subst, arith, le_trans, length, take}
use Rattle.std.proofs.lemmas.List.{take_all}
use Rattle.review_policy.specs.declared.ask.Request.{Request}
use Rattle.office_policy.specs.Runs.{history_after_all}
use Rattle.office_policy.specs.Left.{AreLeft}
use Rattle.office_policy.proofs.LeftFacts.{left_of_one}
use Rattle.office_policy.proofs.RunFacts.{run_next}
use Rattle.office_policy.proofs.handler.Handler.run.Goals as goal

pub loop-request-preserved : goal.loop-request-preserved
loop-request-preserved g c =
    let i = c.loop-request.request-index in
    let before = c.loop-request.answers.items in
    let step = run_next g.Self.Handler.meaning _ _ _ c.args.requests.now i c.request-item.result before c.handle-answer.result c.loop-request-test.true c.request-item.is in
    record {
      room = le_trans c.loop-request.invariant.room c.in_ok-push.ensures.capacity;
      count = c.in_ok-push.ensures.len ∙ ap (λ n. n + 1) c.loop-request.invariant.count;
      ran = rw c.in_ok-push.ensures.items (step c.loop-request.invariant.ran c.handle-answer.ensures);
    }

pub returns-clause-left : goal.returns-clause-left
returns-clause-left g c = λ h office only clean left may.
    let rs = c.args.requests.now in
    let i = c.loop-request.request-index in
    let told = c.loop-request.answers.items in
    let past : length rs ≤ i = omega (arith, c.loop-request-test.false) in
    subst (λ (asked : List Request). AreLeft g.Self.Handler.meaning (history_after_all h asked told) asked told left) (take_all i rs past)
    (left_of_one g.Self.Handler.meaning c.args.self.now h (take i rs) told left only (c.loop-request.invariant.ran.crash h office clean left may))
