use Rattle.std.proofs.Common.{◌≡◌, ◌∙◌, Some, sym, ap}
use Rattle.sqlite.specs.Held.{state}
use Rattle.office_policy.specs.History.{History}
use Rattle.office_policy.specs.Users.{user_of}
use Rattle.office_policy.specs.Verdict.{Verdict, verdict_of}
use Rattle.office_judging.specs.declared.refusal.Refusal.TheVariants as refusals
use Rattle.office_judging.proofs.Judging.{left, read_fails, then_judges}
use Rattle.office_judging.proofs.Verdicts.{comes_as}
use Rattle.office_judging.proofs.judge.judge_named.Goals as goal

pub returns-in_err-caller-clause-judged : goal.returns-in_err-caller-clause-judged
returns-in_err-caller-clause-judged g c =
    left _ _ _ _ (refusals.Fault c.in_err-caller.field-0.0) c.from_residual.ensures.1
    (read_fails _ (state g.S.Store c.args.conn.now) (state g.S.Store c.user_by_name.new.conn) _ c.in_err-caller.field-0.0 c.in_err-caller.ensures.read)

pub returns-clause-judged : goal.returns-clause-judged
returns-clause-judged g c =
    let a = c.args.ask.now in
    let name = c.args.name.now in
    let caller = c.in_ok-caller.caller in
    let judge : History → Verdict = λ h. verdict_of h (user_of h name) a in
    let first : History → Verdict = λ h. verdict_of h caller a in
    then_judges judge first (state g.S.Store c.args.conn.now) (state g.S.Store c.user_by_name.new.conn) (state g.S.Store c.judge_caller.new.conn) _
    caller c.in_ok-caller.ensures.read c.judge_caller.result
    (λ h lawful is. ap (λ u. verdict_of h u a) is)
    (λ h lawful is. comes_as first judge h (λ h user. caller ≡ Some user) (λ h user. user_of h name ≡ Some user)
    (ap (λ u. verdict_of h u a) is)
    (λ user same. sym is ∙ same))
    c.judge_caller.ensures.judged.judged

pub returns-clause-settled : goal.returns-clause-settled
returns-clause-settled g c = c.judge_caller.ensures.judged.judged.settled c.in_ok-caller.ensures.read.leaves.settled
