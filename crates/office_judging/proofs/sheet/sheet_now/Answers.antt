use Rattle.std.proofs.Common.{rules, ◌≡◌, Err, refl}
use Rattle.sqlite.specs.Held.{state}
use Rattle.office_words.specs.declared.fault.Fault.TheVariants.{NoMemory}
use Rattle.office_judging.proofs.Judging.{read_as, read_in_vain, second_fails}
use Rattle.office_judging.proofs.Compared.{read_pair}
use Rattle.office_judging.proofs.Sheets.{sheet_back}
use Rattle.office_judging.proofs.sheet.sheet_now.Goals as goal
use Rattle.no_memory.specs.Witness.{witness}

pub returns-in_err-compared : goal.returns-in_err-compared
returns-in_err-compared g c =
    let old = state g.S.Store c.args.conn.now in
    let mid = state g.S.Store c.standing.new.conn in
    let new = state g.S.Store c.compared_with.new.conn in
    let e : c.from_residual-in_err-compared.result ≡ Err c.in_err-compared.field-0.0 = search rules in
    rw e (second_fails old mid new _ _ _ c.in_ok-votes.ensures.read _ _ c.in_err-compared.ensures)

pub returns-in_err-sheet_of : goal.returns-in_err-sheet_of
returns-in_err-sheet_of g c =
    let old = state g.S.Store c.args.conn.now in
    let mid = state g.S.Store c.standing.new.conn in
    let new = state g.S.Store c.compared_with.new.conn in
    let all = read_pair old mid new _ _ c.in_ok-votes.votes c.in_ok-compared.compared c.in_ok-votes.ensures.read c.in_ok-compared.ensures in
    let e : c.from_residual-in_err-sheet_of.result ≡ Err (NoMemory witness) = search rules in
    rw e (read_in_vain old new _ _ _ (NoMemory witness) refl all)

pub returns : goal.returns
returns g c =
    let old = state g.S.Store c.args.conn.now in
    let mid = state g.S.Store c.standing.new.conn in
    let new = state g.S.Store c.compared_with.new.conn in
    let all = read_pair old mid new _ _ c.in_ok-votes.votes c.in_ok-compared.compared c.in_ok-votes.ensures.read c.in_ok-compared.ensures in
    read_as old new _ _ _ _
    (λ t found. sheet_back c.args.name.now c.args.row.now c.in_ok-votes.votes.items c.in_ok-compared.compared _ t found.0 found.1 c.in_ok-sheet_of.ensures)
    all
