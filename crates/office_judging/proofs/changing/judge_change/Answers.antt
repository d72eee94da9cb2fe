use Rattle.std.proofs.Common.{rules, ◌≡◌, ◌∙◌, [], Err, refl}
use Rattle.sqlite.specs.Held.{state}
use Rattle.office_words.specs.declared.fault.Fault.TheVariants.{NoMemory}
use Rattle.office_judging.specs.declared.refusal.Refusal.TheVariants as refusals
use Rattle.office_judging.proofs.Changes.{change_row, is_done}
use Rattle.office_judging.proofs.Judging.{failed_as, judged_as, refused_as}
use Rattle.office_judging.proofs.changing.judge_change.Goals as goal
use Rattle.no_memory.specs.Witness.{witness}

pub returns-in_err-let_through-clause-judged : goal.returns-in_err-let_through-clause-judged
returns-in_err-let_through-clause-judged g c =
    let e : c.from_residual.result ≡ Err c.in_err-let_through.field-0.0 = search rules in
    rw e (refused_as _ (state g.S.Store c.args.conn.now) (state g.S.Store c.let_through.new.conn) c.in_err-let_through.field-0.0 c.in_err-let_through.ensures.judged)

pub returns-in_err-change-clause-judged : goal.returns-in_err-change-clause-judged
returns-in_err-change-clause-judged g c =
    let e : c.from_residual-in_err-change.result ≡ Err (refusals.Fault (NoMemory witness)) = search rules in
    rw e (failed_as _ (state g.S.Store c.args.conn.now) (state g.S.Store c.let_through.new.conn) c.in_ok-let_through.field-0 (NoMemory witness) refl c.in_ok-let_through.ensures.judged)

pub returns-clause-judged : goal.returns-clause-judged
returns-clause-judged g c =
    judged_as _ (state g.S.Store c.args.conn.now) (state g.S.Store c.let_through.new.conn) c.in_ok-let_through.field-0 _
    (λ h through.
    let is = is_done h c.args.caller c.args.ask.now c.in_ok-change.change c.requires.change c.in_ok-change.ensures in
    record { caller = refl; verdict = through.0 ∙ is.done; next = is.next })
    c.in_ok-let_through.ensures.judged

pub returns-clause-asked : goal.returns-clause-asked
returns-clause-asked g c = (is_done [] c.args.caller c.args.ask.now c.in_ok-change.change c.requires.change c.in_ok-change.ensures).asked

pub let_through-requires-clause-row : goal.let_through-requires-clause-row
let_through-requires-clause-row g c = change_row c.args.ask.now c.requires.change
