use Rattle.std.proofs.Common.{rules, ◌≡◌, true, false, refl}
use Rattle.office_policy.specs.History.{did}
use Rattle.review_office.specs.declared.replay.Unreplayed.TheVariants as causes
use Rattle.review_office.specs.Replayed.{has_text, unreplayed_of}
use Rattle.review_office.proofs.Replaying.{asked_same, done_again, failed_again, judged_same, left_with, other_again, refused_again}
use Rattle.review_office.proofs.replay.replay_deed.Goals as goal

pub returns-in_err-allowed-clause-replayed : goal.returns-in_err-allowed-clause-replayed
returns-in_err-allowed-clause-replayed g c =
    let old = c.args.conn.now in
    let mid = c.judge_named.new.conn in
    let e = did c.args.caller.now c.args.deed.now in
    let refusal = c.in_err-allowed.field-0.0 in
    left_with g.S.Store old mid e c.from_residual.result (unreplayed_of refusal) c.from_residual.ensures.1
    (refused_again g.S.Store old mid e c.args.ask.now c.requires.asks c.args.caller.now refl refusal c.in_err-allowed.ensures.judged c.in_err-allowed.ensures.settled)

pub returns-then-not-has_text-clause-replayed : goal.returns-then-not-has_text-clause-replayed
returns-then-not-has_text-clause-replayed g c =
    let old = c.args.conn.now in
    let mid = c.judge_named.new.conn in
    let e = did c.args.caller.now c.args.deed.now in
    let a = c.args.ask.now in
    let allowed = c.in-Allowed.allowed in
    let text : has_text e allowed.change ≡ false = search (rules, c.has_text.ensures c.args.caller.now) in
    other_again g.S.Store old mid e a c.requires.asks c.args.caller.now refl c.requires.forms allowed
    (judged_same g.S.Store old mid c.args.caller.now a c.in_ok-allowed.field-0 allowed c.in-Allowed.is c.in_ok-allowed.ensures.judged)
    (asked_same g.S.Store old mid c.args.caller.now a c.in_ok-allowed.field-0 allowed c.in-Allowed.is c.in_ok-allowed.ensures.asked)
    text c.in_ok-allowed.ensures.settled

pub returns-in_err-carry_out-clause-replayed : goal.returns-in_err-carry_out-clause-replayed
returns-in_err-carry_out-clause-replayed g c =
    let old = c.args.conn.now in
    let mid = c.judge_named.new.conn in
    let new = c.carry_out.new.conn in
    let e = did c.args.caller.now c.args.deed.now in
    let a = c.args.ask.now in
    let allowed = c.in-Allowed.allowed in
    let fault = c.in_err-carry_out.field-0.0 in
    let text : has_text e allowed.change ≡ true = search (rules, c.has_text.ensures c.args.caller.now) in
    left_with g.S.Store old new e c.from_residual-in_err-carry_out.result (causes.Fault fault) c.from_residual-in_err-carry_out.ensures.1
    (failed_again g.S.Store old mid e a c.requires.asks c.args.caller.now refl c.requires.forms allowed
    (judged_same g.S.Store old mid c.args.caller.now a c.in_ok-allowed.field-0 allowed c.in-Allowed.is c.in_ok-allowed.ensures.judged)
    (asked_same g.S.Store old mid c.args.caller.now a c.in_ok-allowed.field-0 allowed c.in-Allowed.is c.in_ok-allowed.ensures.asked)
    text c.in_ok-allowed.ensures.open new fault c.in_err-carry_out.ensures)

pub returns-clause-replayed : goal.returns-clause-replayed
returns-clause-replayed g c =
    let old = c.args.conn.now in
    let mid = c.judge_named.new.conn in
    let e = did c.args.caller.now c.args.deed.now in
    let a = c.args.ask.now in
    let allowed = c.in-Allowed.allowed in
    let text : has_text e allowed.change ≡ true = search (rules, c.has_text.ensures c.args.caller.now) in
    done_again g.S.Store old mid e a c.requires.asks c.args.caller.now refl c.requires.forms allowed
    (judged_same g.S.Store old mid c.args.caller.now a c.in_ok-allowed.field-0 allowed c.in-Allowed.is c.in_ok-allowed.ensures.judged)
    (asked_same g.S.Store old mid c.args.caller.now a c.in_ok-allowed.field-0 allowed c.in-Allowed.is c.in_ok-allowed.ensures.asked)
    text c.in_ok-allowed.ensures.open c.carry_out.new.conn c.in_ok-carry_out.ensures

pub returns-in_err-carry_out-clause-idle : goal.returns-in_err-carry_out-clause-idle
returns-in_err-carry_out-clause-idle g c = c.carry_out.ensures.written.leaves.idle

pub returns-clause-idle : goal.returns-clause-idle
returns-clause-idle g c = c.carry_out.ensures.written.leaves.idle
