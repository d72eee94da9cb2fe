use Rattle.std.proofs.Common.{Err, sym, subst}
use Rattle.sqlite.specs.Held.{state}
use Rattle.office_judging.specs.Judged.{JudgesFor}
use Rattle.office_judging.proofs.Verdicts.{judged_stranger}
use Rattle.office_judging.proofs.judge.judge_caller.Goals as goal

pub returns-in-Some-clause-judged : goal.returns-in-Some-clause-judged
returns-in-Some-clause-judged g c =
    subst (λ caller. JudgesFor (state g.S.Store c.args.conn.now) (state g.S.Store c.judge_for.new.conn) c.judge_for.result caller c.args.ask.now) (sym c.in-Some.is) c.judge_for.ensures.judged

pub returns-in-None-clause-judged : goal.returns-in-None-clause-judged
returns-in-None-clause-judged g c =
    subst (λ caller. JudgesFor (state g.S.Store c.args.conn.now) (state g.S.Store c.args.conn.now) (Err c.from.result) caller c.args.ask.now) (sym c.in-None.is)
    (judged_stranger (state g.S.Store c.args.conn.now) c.args.ask.now c.from.result (rw c.by_first.ensures at c.from.ensures) c.requires.idle)
