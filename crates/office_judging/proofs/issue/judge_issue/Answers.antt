use Rattle.std.proofs.Common.{rules, ◌≡◌, ◌∙◌, Some, None, sym, ap, refl}
use Rattle.sqlite.specs.Held.{state}
use Rattle.review_policy.specs.declared.act.RevisionAct.TheVariants.{Issue}
use Rattle.review_policy.specs.declared.answer.Reply.TheVariants.{Issued}
use Rattle.review_policy.specs.Rules.{issue_rules, known_denial}
use Rattle.office_words.specs.declared.fault.Fault.TheVariants.{NoMemory}
use Rattle.office_policy.specs.declared.change.Change.TheVariants as changes
use Rattle.office_policy.specs.History.{issued}
use Rattle.office_policy.specs.Verdict.{accepted}
use Rattle.office_judging.specs.declared.refusal.Refusal.TheVariants as refusals
use Rattle.office_judging.proofs.Judging.{left, refused_at_once, read_fails, second_fails, fails_after, refused_after, found_after}
use Rattle.office_judging.proofs.Compared.{read_pair}
use Rattle.office_judging.proofs.Issuing.{caller_refused, refused_early_on, refused_by_need, accepts}
use Rattle.office_judging.proofs.issue.judge_issue.Goals as goal
use Rattle.no_memory.specs.Witness.{witness}

pub returns-in_err-decide_issue-clause-judged : goal.returns-in_err-decide_issue-clause-judged
returns-in_err-decide_issue-clause-judged g c =
    let d = c.in_err-decide_issue.field-0.0 in
    left _ _ _ _ (refusals.Denied d None) c.from_residual.ensures.1
    (refused_at_once _ (state g.S.Store c.args.conn.now) d None c.requires
    (λ h lawful. caller_refused h c.args.caller c.args.name.now c.args.number d
    (ap (λ f. known_denial (issue_rules f)) (sym c.facts_of_caller.ensures) ∙ sym c.in_err-decide_issue.ensures)))

pub returns-in_err-looked-clause-judged : goal.returns-in_err-looked-clause-judged
returns-in_err-looked-clause-judged g c =
    left _ _ _ _ (refusals.Fault c.in_err-looked.field-0.0) c.from_residual-in_err-looked.ensures.1
    (read_fails _ (state g.S.Store c.args.conn.now) (state g.S.Store c.look_up.new.conn) _ c.in_err-looked.field-0.0 c.in_err-looked.ensures)

pub returns-in_err-decide_issue-2-clause-judged : goal.returns-in_err-decide_issue-2-clause-judged
returns-in_err-decide_issue-2-clause-judged g c =
    let d = c.in_err-decide_issue-2.field-0.0 in
    let looked = c.in_ok-looked.looked in
    left _ _ _ _ (refusals.Denied d None) c.from_residual-in_err-decide_issue-2.ensures.1
    (refused_after _ (state g.S.Store c.args.conn.now) (state g.S.Store c.look_up.new.conn) _ looked c.in_ok-looked.ensures d None
    (λ h lawful looks. refused_early_on h c.args.caller c.args.name.now c.args.number looked (looks h lawful refl) d
    (ap (λ f. known_denial (issue_rules f)) (sym c.facts_before_need.ensures) ∙ sym c.in_err-decide_issue-2.ensures)))

pub deciding_need-requires-clause-is_open : goal.deciding_need-requires-clause-is_open
deciding_need-requires-clause-is_open g c clean = (c.in_ok-looked.ensures.leaves.answered clean).1

pub returns-in_err-need-clause-judged : goal.returns-in_err-need-clause-judged
returns-in_err-need-clause-judged g c =
    let old = state g.S.Store c.args.conn.now in
    let mid = state g.S.Store c.look_up.new.conn in
    let new = state g.S.Store c.deciding_need.new.conn in
    let fault = c.in_err-need.field-0.0 in
    left _ _ _ _ (refusals.Fault fault) c.from_residual-in_err-need.ensures.1
    (read_fails _ old new (λ t (x : Unit {0}). Unit {0}) fault
    (second_fails old mid new _ _ c.in_ok-looked.looked c.in_ok-looked.ensures _ fault c.in_err-need.ensures))

pub returns-in_err-decide_issue-3-clause-judged : goal.returns-in_err-decide_issue-3-clause-judged
returns-in_err-decide_issue-3-clause-judged g c =
    let old = state g.S.Store c.args.conn.now in
    let mid = state g.S.Store c.look_up.new.conn in
    let new = state g.S.Store c.deciding_need.new.conn in
    let looked = c.in_ok-looked.looked in
    let need = c.in_ok-need.need in
    let both = read_pair old mid new _ _ looked need c.in_ok-looked.ensures c.in_ok-need.ensures in
    let d = c.in_err-decide_issue-3.field-0.0 in
    left _ _ _ _ (refusals.Denied d None) c.from_residual-in_err-decide_issue-3.ensures.1
    (refused_after _ old new _ (looked, need) both d None
    (λ h lawful looks. refused_by_need h c.args.caller c.args.name.now c.args.number looked (looks.0 h lawful refl) c.in-Some.row c.in-Some.is
    need (looks.1 h lawful refl) d
    (ap (λ f. known_denial (issue_rules f)) (sym c.all_facts.ensures) ∙ sym c.in_err-decide_issue-3.ensures)))

pub returns-in_err-clone-clause-judged : goal.returns-in_err-clone-clause-judged
returns-in_err-clone-clause-judged g c =
    let old = state g.S.Store c.args.conn.now in
    let mid = state g.S.Store c.look_up.new.conn in
    let new = state g.S.Store c.deciding_need.new.conn in
    let looked = c.in_ok-looked.looked in
    let need = c.in_ok-need.need in
    let both = read_pair old mid new _ _ looked need c.in_ok-looked.ensures c.in_ok-need.ensures in
    left _ _ _ _ (refusals.Fault (NoMemory witness)) c.from_residual-in_err-clone.ensures.1
    (fails_after _ old new _ (looked, need) both (NoMemory witness) refl)

pub returns-clause-judged : goal.returns-clause-judged
returns-clause-judged g c =
    let same : c.in_ok-clone.field-0 ≡ c.args.name.now = search rules in
    let old = state g.S.Store c.args.conn.now in
    let mid = state g.S.Store c.look_up.new.conn in
    let new = state g.S.Store c.deciding_need.new.conn in
    let looked = c.in_ok-looked.looked in
    let need = c.in_ok-need.need in
    let both = read_pair old mid new _ _ looked need c.in_ok-looked.ensures c.in_ok-need.ensures in
    found_after _ old new _ (looked, need) both
    (record { caller = c.args.caller; change = changes.ActOnRevision Issue c.in_ok-clone.field-0 c.args.number; reply = Issued c.in-Some.row.digest })
    (λ h lawful looks. record {
      caller = refl;
      verdict = accepts h c.args.caller c.args.name.now c.args.number looked (looks.0 h lawful refl) c.in-Some.row c.in-Some.is
          need (looks.1 h lawful refl)
          (ap (λ f. known_denial (issue_rules f)) (sym c.all_facts.ensures) ∙ sym c.in_ok-decide_issue-3.ensures)
          ∙ ap (λ p. accepted (Issued c.in-Some.row.digest) (Some (issued c.args.caller.name p c.args.number))) (sym same);
      next = tt;
    })
