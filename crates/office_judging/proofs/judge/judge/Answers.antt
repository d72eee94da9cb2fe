use Rattle.std.proofs.Common.{◌≡◌, ◌∙◌, Some, ap}
use Rattle.sqlite.specs.Held.{state}
use Rattle.profile_text.specs.Digest.{digest_of}
use Rattle.office_policy.specs.Users.{user_showing}
use Rattle.office_policy.specs.Verdict.{verdict_of, verdict}
use Rattle.office_judging.specs.declared.refusal.Refusal.TheVariants as refusals
use Rattle.office_judging.proofs.Judging.{left, read_fails, then_judges}
use Rattle.office_judging.proofs.Verdicts.{called, comes_as, shows}
use Rattle.office_judging.proofs.judge.judge.Goals as goal

pub returns-in_err-caller-clause-judged : goal.returns-in_err-caller-clause-judged
returns-in_err-caller-clause-judged g c =
    left _ _ _ _ (refusals.Fault c.in_err-caller.field-0.0) c.from_residual.ensures.1
    (read_fails _ (state g.S.Store c.args.conn.now) (state g.S.Store c.user_by_token.new.conn) _ c.in_err-caller.field-0.0 c.in_err-caller.ensures.read)

pub returns-clause-judged : goal.returns-clause-judged
returns-clause-judged g c =
    let r = c.args.request.now in
    let caller = c.in_ok-caller.caller in
    let shown = c.digest-token.ensures ∙ ap digest_of (c.as_bytes.ensures.value ∙ c.as_str.ensures.text) in
    then_judges (λ h. verdict h r) (λ h. verdict_of h caller r.ask) (state g.S.Store c.args.conn.now) (state g.S.Store c.user_by_token.new.conn) (state g.S.Store c.judge_caller.new.conn) _
    caller c.in_ok-caller.ensures.read c.judge_caller.result
    (λ h lawful is. called h lawful r c.digest-token.result caller shown is)
    (λ h lawful is. comes_as (λ h. verdict_of h caller r.ask) (λ h. verdict h r) h (λ h user. caller ≡ Some user) (λ h user. user_showing h (digest_of r.token) ≡ Some user)
    (called h lawful r c.digest-token.result caller shown is)
    (λ user same. shows h lawful r c.digest-token.result caller shown is ∙ same))
    c.judge_caller.ensures.judged.judged

pub returns-clause-settled : goal.returns-clause-settled
returns-clause-settled g c = c.judge_caller.ensures.judged.judged.settled c.in_ok-caller.ensures.read.leaves.settled
