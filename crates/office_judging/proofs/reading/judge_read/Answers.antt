use Rattle.std.proofs.Common.{rules, ◌≡◌, ◌∙◌, Err, refl}
use Rattle.sqlite.specs.Held.{state}
use Rattle.office_judging.specs.declared.refusal.Refusal.TheVariants as refusals
use Rattle.office_judging.proofs.Judging.{fails_further, found_further, refused_as}
use Rattle.office_judging.proofs.Replies.{view_row}
use Rattle.office_judging.proofs.reading.judge_read.Goals as goal

pub let_through-requires-clause-row : goal.let_through-requires-clause-row
let_through-requires-clause-row g c = view_row c.args.ask.now c.requires.view

pub reply_to-requires-clause-passed : goal.reply_to-requires-clause-passed
reply_to-requires-clause-passed g c = (c.args.caller.now, c.in_ok-looked.ensures.passed)

pub reply_to-requires-clause-is_open : goal.reply_to-requires-clause-is_open
reply_to-requires-clause-is_open g c = λ clean. c.in_ok-looked.ensures.judged.stays clean (c.requires.is_open (c.in_ok-looked.ensures.judged.clean clean))

pub returns-in_err-looked : goal.returns-in_err-looked
returns-in_err-looked g c =
    let e : c.from_residual.result ≡ Err c.in_err-looked.field-0.0 = search rules in
    rw e (refused_as _ (state g.S.Store c.args.conn.now) (state g.S.Store c.let_through.new.conn) c.in_err-looked.field-0.0 c.in_err-looked.ensures.judged)

pub returns-in_err-reply : goal.returns-in_err-reply
returns-in_err-reply g c =
    let e : c.from_residual-in_err-reply.result ≡ Err (refusals.Fault c.in_err-reply.field-0.0) = search rules in
    rw e (fails_further _ (state g.S.Store c.args.conn.now) (state g.S.Store c.let_through.new.conn) (state g.S.Store c.reply_to.new.conn) c.in_ok-looked.looked c.in_ok-looked.ensures.judged _ c.in_err-reply.field-0.0 c.in_err-reply.ensures)

pub returns : goal.returns
returns g c =
    found_further _ (state g.S.Store c.args.conn.now) (state g.S.Store c.let_through.new.conn) (state g.S.Store c.reply_to.new.conn) c.in_ok-looked.looked c.in_ok-looked.ensures.judged _
    c.in_ok-reply.reply c.in_ok-reply.reply (λ h lawful through answers. through.0 ∙ answers h c.args.caller.now lawful refl through.1) c.in_ok-reply.ensures
