use Rattle.std.proofs.Common.{None, Some}
use Rattle.sqlite.specs.Held.{state}
use Rattle.office_judging.proofs.Judging.{read_as}
use Rattle.office_judging.proofs.Standing.{read_then, last_found, never_without}
use Rattle.office_judging.proofs.profiles.without_open.Goals as goal

pub returns-in_default : goal.returns-in_default
returns-in_default g c =
    read_as (state g.S.Store c.args.conn.now) (state g.S.Store c.last_numbered.new.conn) _ _ None _
    (λ t. never_without c.args.name.now t _) (rw c.in_default.is at c.in_ok-last.ensures.read)

pub returns-in-Some-known : goal.returns-in-Some-known
returns-in-Some-known g c =
    read_as (state g.S.Store c.args.conn.now) (state g.S.Store c.last_numbered.new.conn) _ _ (Some c.in-Some.last) c.in-Some-known.standing
    (λ t found h lawful same some. rw c.in-Some-known.is at (c.known.ensures h c.args.name.now (last_found c.args.name.now t c.in-Some.last found h same some)))
    (rw c.in-Some.is at c.in_ok-last.ensures.read)

pub returns-in-None : goal.returns-in-None
returns-in-None g c =
    read_then (state g.S.Store c.args.conn.now) (state g.S.Store c.last_numbered.new.conn) (state g.S.Store c.with_last.new.conn) _ _ _
    (Some c.in-Some.last) c.with_last.result (rw c.in-Some.is at c.in_ok-last.ensures.read)
    (λ t standing found stands h lawful same some. stands h lawful same (last_found c.args.name.now t c.in-Some.last found h same some)) c.with_last.ensures
