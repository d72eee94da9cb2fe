use Rattle.std.proofs.Common.{rules, ◌≡◌, Err, subst}
use Rattle.sqlite.specs.Held.{state}
use Rattle.office_words.specs.Lists.{IsListed}
use Rattle.office_judging.proofs.Judging.{read_as, read_both, second_fails}
use Rattle.office_judging.proofs.Standing.{one_listed}
use Rattle.office_judging.proofs.profiles.listed.Goals as goal

pub returns-in-Some : goal.returns-in-Some
returns-in-Some g c =
    read_as (state g.S.Store c.args.conn.now) (state g.S.Store c.next_listed.new.conn) _ _ c.in_ok-next.next _
    (λ t next h lawful same first.
    let here = subst (λ u. IsListed u c.args.team.now c.args.first) same first in
    (c.listed_as.ensures h c.args.team.now (rw c.in-Some.is at (c.known_at_once.ensures h _ (one_listed h c.args.team.now c.args.first here))), next)) c.in_ok-next.ensures

pub returns-in_err-standing-in-None : goal.returns-in_err-standing-in-None
returns-in_err-standing-in-None g c =
    let old = state g.S.Store c.args.conn.now in
    let mid = state g.S.Store c.next_listed.new.conn in
    let new = state g.S.Store c.standing_in.new.conn in
    let e : c.from_residual-in_err-standing-in-None.result ≡ Err c.in_err-standing-in-None.field-0.0 = search rules in
    rw e (second_fails old mid new _ _ c.in_ok-next.next c.in_ok-next.ensures _ c.in_err-standing-in-None.field-0.0 c.in_err-standing-in-None.ensures)

pub returns-in_ok-standing-in-None : goal.returns-in_ok-standing-in-None
returns-in_ok-standing-in-None g c =
    read_both (state g.S.Store c.args.conn.now) (state g.S.Store c.next_listed.new.conn) (state g.S.Store c.standing_in.new.conn) _ _
    c.in_ok-next.next c.in_ok-next.ensures _ c.in_ok-standing-in-None.standing _
    (λ t next stands h lawful same first.
    (c.listed_as-in-None.ensures h c.args.team.now (stands h lawful same (subst (λ u. IsListed u c.args.team.now c.args.first) same first)), next)) c.in_ok-standing-in-None.ensures
