use Rattle.std.proofs.Common.{rules, ◌≡◌, ◌∙◌, Err, sym}
use Rattle.sqlite.specs.Held.{state}
use Rattle.office_judging.proofs.Judging.{read_as, read_both, second_fails}
use Rattle.office_judging.proofs.Sheets.{sheet_there, no_sheet}
use Rattle.office_judging.proofs.sheet.sheet_at.Goals as goal

pub returns-in_default : goal.returns-in_default
returns-in_default g c =
    let old = state g.S.Store c.args.conn.now in
    let new = state g.S.Store c.revision.new.conn in
    read_as old new _ _ _ _ (λ t is. no_sheet c.args.name.now c.args.number t (sym c.in_default.is ∙ is)) c.in_ok-row.ensures.read

pub returns-in_err-sheet : goal.returns-in_err-sheet
returns-in_err-sheet g c =
    let old = state g.S.Store c.args.conn.now in
    let mid = state g.S.Store c.revision.new.conn in
    let new = state g.S.Store c.sheet_now.new.conn in
    let e : c.from_residual-in_err-sheet.result ≡ Err c.in_err-sheet.field-0.0 = search rules in
    rw e (second_fails old mid new _ _ _ c.in_ok-row.ensures.read _ _ c.in_err-sheet.ensures)

pub returns : goal.returns
returns g c =
    let old = state g.S.Store c.args.conn.now in
    let mid = state g.S.Store c.revision.new.conn in
    let new = state g.S.Store c.sheet_now.new.conn in
    read_both old mid new _ _ _ c.in_ok-row.ensures.read _ _ _
    (λ t is looks. sheet_there c.args.name.now c.args.number c.in-Some.row c.in_ok-sheet.sheet t (sym c.in-Some.is ∙ is) looks)
    c.in_ok-sheet.ensures
