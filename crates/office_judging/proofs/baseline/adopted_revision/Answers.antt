use Rattle.std.proofs.Common.{rules, ◌≡◌, Err}
use Rattle.sqlite.specs.Held.{state}
use Rattle.office_judging.proofs.Judging.{read_both, second_fails}
use Rattle.office_judging.proofs.Compared.{adopted_found}
use Rattle.office_judging.proofs.baseline.adopted_revision.Goals as goal

pub returns-in_err-found : goal.returns-in_err-found
returns-in_err-found g c =
    let old = state g.S.Store c.args.conn.now in
    let mid = state g.S.Store c.baseline.new.conn in
    let new = state g.S.Store c.revision.new.conn in
    let e : c.from_residual-in_err-found.result ≡ Err c.in_err-found.field-0.0 = search rules in
    rw e (second_fails old mid new _ _ _ c.in_ok-adopted.ensures.read _ _ c.in_err-found.ensures.read)

pub returns : goal.returns
returns g c =
    let old = state g.S.Store c.args.conn.now in
    let mid = state g.S.Store c.baseline.new.conn in
    let new = state g.S.Store c.revision.new.conn in
    let same : c.in_ok-clone.field-0 ≡ c.args.team.now = search rules in
    read_both old mid new _ _ _ c.in_ok-adopted.ensures.read _ _ _
    (adopted_found c.args.team.now c.in_ok-adopted.field-0 c.in-Some.adopted c.in_ok-clone.field-0 c.in_ok-found.found c.standing.result
    c.in-Some.is same c.standing.ensures)
    c.in_ok-found.ensures.read
