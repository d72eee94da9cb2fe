use Rattle.std.proofs.Common.{subst, arith}
use Rattle.sqlite.specs.Held.{state}
use Rattle.office_judging.specs.Listed.{IsOneOf}
use Rattle.office_judging.proofs.Standing.{open_is_last, read_weaker}
use Rattle.office_judging.proofs.profiles.stands.Goals as goal

pub returns-in-Open : goal.returns-in-Open
returns-in-Open g c =
    read_weaker (state g.S.Store c.args.conn.now) (state g.S.Store c.with_last.new.conn) _ _ c.with_last.result
    (λ t standing known h lawful same one.
    let is_open = subst (IsOneOf h c.args.name.now c.args.number) c.in-Open.is one in
    known h lawful same (record { last = open_is_last h c.args.name.now c.args.number is_open; one = one })) c.with_last.ensures

pub returns-in_default : goal.returns-in_default
returns-in_default g c =
    read_weaker (state g.S.Store c.args.conn.now) (state g.S.Store c.without_open.new.conn) _ _ c.without_open.result
    (λ t standing known h lawful same one. known h lawful same (omega (arith, one.first, one.last))) c.without_open.ensures
