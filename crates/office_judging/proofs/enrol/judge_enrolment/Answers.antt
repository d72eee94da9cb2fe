use Rattle.std.proofs.Common.{◌∙◌, Some, None, refl, sym, ap}
use Rattle.sqlite.specs.Held.{state}
use Rattle.review_policy.specs.declared.answer.Reply.TheVariants.{Nothing}
use Rattle.review_policy.specs.Rules.{enrol_rules, known_denial}
use Rattle.office_words.specs.declared.fault.Fault.TheVariants.{NoMemory}
use Rattle.office_words.specs.declared.row.UserRow.{UserRow}
use Rattle.office_policy.specs.declared.change.Change.TheVariants as changes
use Rattle.office_policy.specs.History.{enrolled}
use Rattle.office_policy.specs.Verdict.{accepted}
use Rattle.office_judging.specs.declared.refusal.Refusal.TheVariants as refusals
use Rattle.office_judging.proofs.Judging.{left, refused_at_once, read_fails, fails_after, refused_after, found_after}
use Rattle.office_judging.proofs.Enrolments.{refused_early, refused, accepts}
use Rattle.office_judging.proofs.enrol.judge_enrolment.Goals as goal
use Rattle.no_memory.specs.Witness.{witness}

pub returns-in_err-decide_enrol-clause-judged : goal.returns-in_err-decide_enrol-clause-judged
returns-in_err-decide_enrol-clause-judged g c =
    left _ _ _ _ (refusals.Denied c.in_err-decide_enrol.field-0.0 None) c.from_residual.ensures.1
    (refused_at_once _ (state g.S.Store c.args.conn.now) c.in_err-decide_enrol.field-0.0 None c.requires
    (λ h lawful. refused_early h c.args.caller c.args.user.now c.args.team.now c.args.roles c.args.digest.now
    c.in_err-decide_enrol.field-0.0 (ap (λ f. known_denial (enrol_rules f)) (sym c.facts_of_caller.ensures) ∙ sym c.in_err-decide_enrol.ensures)))

pub returns-in_err-known-clause-judged : goal.returns-in_err-known-clause-judged
returns-in_err-known-clause-judged g c =
    left _ _ _ _ (refusals.Fault c.in_err-known.field-0.0) c.from_residual-in_err-known.ensures.1
    (read_fails _ (state g.S.Store c.args.conn.now) (state g.S.Store c.users_of.new.conn) _ c.in_err-known.field-0.0 c.in_err-known.ensures)

pub returns-in_err-decide_enrol-2-clause-judged : goal.returns-in_err-decide_enrol-2-clause-judged
returns-in_err-decide_enrol-2-clause-judged g c =
    left _ _ _ _ (refusals.Denied c.in_err-decide_enrol-2.field-0.0 None) c.from_residual-in_err-decide_enrol-2.ensures.1
    (refused_after _ (state g.S.Store c.args.conn.now) (state g.S.Store c.users_of.new.conn) _
    (c.in_ok-known.known, c.in_ok-known.shower) c.in_ok-known.ensures c.in_err-decide_enrol-2.field-0.0 None
    (λ h lawful is. refused h c.args.caller c.args.user.now c.args.team.now c.args.roles c.args.digest.now
    (c.in_ok-known.known, c.in_ok-known.shower) (is h lawful refl) c.in_err-decide_enrol-2.field-0.0
    (ap (λ f. known_denial (enrol_rules f)) (sym c.all_facts.ensures) ∙ sym c.in_err-decide_enrol-2.ensures)))

pub returns-in_err-row_of-clause-judged : goal.returns-in_err-row_of-clause-judged
returns-in_err-row_of-clause-judged g c =
    left _ _ _ _ (refusals.Fault (NoMemory witness)) c.from_residual-in_err-row_of.ensures.1
    (fails_after _ (state g.S.Store c.args.conn.now) (state g.S.Store c.users_of.new.conn) _ (c.in_ok-known.known, c.in_ok-known.shower) c.in_ok-known.ensures (NoMemory witness) refl)

pub returns-clause-judged : goal.returns-clause-judged
returns-clause-judged g c =
    found_after _ (state g.S.Store c.args.conn.now) (state g.S.Store c.users_of.new.conn) _
    (c.in_ok-known.known, c.in_ok-known.shower) c.in_ok-known.ensures (record { caller = c.args.caller; change = changes.Enrol c.in_ok-row_of.field-0; reply = Nothing })
    (λ h lawful is. record {
      caller = refl;
      verdict = accepts h c.args.caller c.args.user.now c.args.team.now c.args.roles c.args.digest.now
          (c.in_ok-known.known, c.in_ok-known.shower) (is h lawful refl)
          (ap (λ f. known_denial (enrol_rules f)) (sym c.all_facts.ensures) ∙ sym c.in_ok-decide_enrol-2.ensures)
          ∙ ap (λ (u : UserRow). accepted Nothing (Some (enrolled c.args.caller.name u.name u.team u.roles u.digest))) (sym c.in_ok-row_of.ensures);
      next = tt;
    })
