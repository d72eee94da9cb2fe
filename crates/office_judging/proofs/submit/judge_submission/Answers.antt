use Rattle.std.proofs.Common.{rules, ◌≡◌, ◌∙◌, Some, None, Err, sym, ap, subst, refl}
use Rattle.sqlite.specs.Held.{state}
use Rattle.review_policy.specs.Rules.{submit_rules, known_denial}
use Rattle.office_words.specs.declared.fault.Fault.TheVariants.{NoMemory}
use Rattle.review_policy.specs.declared.ask.Ask.TheVariants as ask
use Rattle.office_policy.specs.Verdict.{verdict_of}
use Rattle.office_judging.specs.Judged.{IsAllowedBy, IsAskedBy}
use Rattle.office_judging.specs.declared.refusal.Refusal.TheVariants as refusals
use Rattle.office_judging.proofs.Judging.{left, read_fails, fails_after, refused_after, found_after}
use Rattle.office_judging.proofs.Submissions.{turned_away, refused, accepts, asked_of}
use Rattle.office_judging.proofs.submit.judge_submission.Goals as goal
use Rattle.no_memory.specs.Witness.{witness}

pub returns-in_err-text-clause-judged : goal.returns-in_err-text-clause-judged
returns-in_err-text-clause-judged g c =
    let e : c.from_residual.result ≡ Err c.in_err-text.field-0.0 = search rules in
    rw e (turned_away _ (state g.S.Store c.args.conn.now) c.in_err-text.field-0.0 c.requires c.in_err-text.ensures.refused)

pub returns-in_err-last-clause-judged : goal.returns-in_err-last-clause-judged
returns-in_err-last-clause-judged g c =
    left _ _ _ _ (refusals.Fault c.in_err-last.field-0.0) c.from_residual-in_err-last.ensures.1
    (read_fails _ (state g.S.Store c.args.conn.now) (state g.S.Store c.last.new.conn) _ c.in_err-last.field-0.0 c.in_err-last.ensures.read)

pub returns-in_err-decide_submit-clause-judged : goal.returns-in_err-decide_submit-clause-judged
returns-in_err-decide_submit-clause-judged g c =
    let d = c.in_err-decide_submit.field-0.0 in
    left _ _ _ _ (refusals.Denied d None) c.from_residual-in_err-decide_submit.ensures.1
    (refused_after _ (state g.S.Store c.args.conn.now) (state g.S.Store c.last.new.conn) _ c.in_ok-last.last c.in_ok-last.ensures.read d None
    (λ h lawful is. refused h c.args.caller c.args.name.now c.args.document.now c.in_ok-text.text c.in_ok-text.ensures.text c.in_ok-last.last is d
    (ap (λ f. known_denial (submit_rules f)) (sym c.all_facts.ensures) ∙ sym c.in_err-decide_submit.ensures)))

pub returns-in_err-row-clause-judged : goal.returns-in_err-row-clause-judged
returns-in_err-row-clause-judged g c =
    left _ _ _ _ (refusals.Fault (NoMemory witness)) c.from_residual-in_err-row.ensures.1
    (fails_after _ (state g.S.Store c.args.conn.now) (state g.S.Store c.last.new.conn) _ c.in_ok-last.last c.in_ok-last.ensures.read (NoMemory witness) refl)

pub returns-in_err-addition-clause-judged : goal.returns-in_err-addition-clause-judged
returns-in_err-addition-clause-judged g c =
    left _ _ _ _ (refusals.Fault (NoMemory witness)) c.from_residual-in_err-addition.ensures.1
    (fails_after _ (state g.S.Store c.args.conn.now) (state g.S.Store c.last.new.conn) _ c.in_ok-last.last c.in_ok-last.ensures.read (NoMemory witness) refl)

pub returns-clause-judged : goal.returns-clause-judged
returns-clause-judged g c =
    found_after _ (state g.S.Store c.args.conn.now) (state g.S.Store c.last.new.conn) _ c.in_ok-last.last c.in_ok-last.ensures.read c.in_ok-addition.field-0
    (λ h lawful is.
    let by = verdict_of h (Some c.args.caller) (ask.Submit c.args.name.now c.args.document.now) in
    subst (IsAllowedBy by (λ user. Some c.args.caller ≡ Some user) h) (sym c.in_ok-addition.ensures)
    (accepts h c.args.caller c.args.name.now c.args.document.now c.in_ok-text.text c.in_ok-text.ensures.text c.in_ok-last.last is
    c.in_ok-row.row c.in_ok-row.ensures
    (ap (λ f. known_denial (submit_rules f)) (sym c.all_facts.ensures) ∙ sym c.in_ok-decide_submit.ensures)))

pub returns-clause-asked : goal.returns-clause-asked
returns-clause-asked g c =
    subst (IsAskedBy (ask.Submit c.args.name.now c.args.document.now)) (sym c.in_ok-addition.ensures)
    (asked_of c.args.caller c.args.name.now c.args.document.now c.in_ok-text.text c.in_ok-text.ensures.text c.in_ok-row.row (ap (λ r. r.body) c.in_ok-row.ensures))
