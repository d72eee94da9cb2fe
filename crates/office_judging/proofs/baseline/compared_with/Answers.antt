use Rattle.std.proofs.Common.{rules, ◌≡◌, Err}
use Rattle.sqlite.specs.Held.{state}
use Rattle.office_judging.proofs.Judging.{read_both, second_fails}
use Rattle.office_judging.proofs.Compared.{compared_found}
use Rattle.office_judging.proofs.baseline.compared_with.Goals as goal

pub returns-in_err-adopted : goal.returns-in_err-adopted
returns-in_err-adopted g c =
    let old = state g.S.Store c.args.conn.now in
    let mid = state g.S.Store c.listed.new.conn in
    let new = state g.S.Store c.adopted_revision.new.conn in
    let e : c.from_residual-in_err-adopted.result ≡ Err c.in_err-adopted.field-0.0 = search rules in
    rw e (second_fails old mid new _ _ _ c.in_ok-listed.ensures.read _ _ c.in_err-adopted.ensures)

pub returns : goal.returns
returns g c =
    let old = state g.S.Store c.args.conn.now in
    let mid = state g.S.Store c.listed.new.conn in
    let new = state g.S.Store c.adopted_revision.new.conn in
    read_both old mid new _ _ _ c.in_ok-listed.ensures.read _ _ _ (compared_found c.args.team.now c.in_ok-listed.listed c.in_ok-adopted.adopted)
    c.in_ok-adopted.ensures
