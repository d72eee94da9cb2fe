use Rattle.std.proofs.Common.{rules, ◌≡◌, Err}
use Rattle.sqlite.specs.Held.{state}
use Rattle.office_judging.proofs.Judging.{read_both, second_fails}
use Rattle.office_judging.proofs.Compared.{read_pair}
use Rattle.office_judging.proofs.Issuing.{looked_found}
use Rattle.office_judging.proofs.issue.look_up.Goals as goal

pub returns-in_err-by_author : goal.returns-in_err-by_author
returns-in_err-by_author g c =
    let old = state g.S.Store c.args.conn.now in
    let one = state g.S.Store c.revision.new.conn in
    let two = state g.S.Store c.is_author.new.conn in
    let e : c.from_residual-in_err-by_author.result ≡ Err c.in_err-by_author.field-0.0 = search rules in
    rw e (second_fails old one two _ _ _ c.in_ok-revision.ensures.read _ _ c.in_err-by_author.ensures.read)

pub returns-in_err-tally : goal.returns-in_err-tally
returns-in_err-tally g c =
    let old = state g.S.Store c.args.conn.now in
    let one = state g.S.Store c.revision.new.conn in
    let two = state g.S.Store c.is_author.new.conn in
    let three = state g.S.Store c.tally.new.conn in
    let both = read_pair old one two _ _ _ _ c.in_ok-revision.ensures.read c.in_ok-by_author.ensures.read in
    let e : c.from_residual-in_err-tally.result ≡ Err c.in_err-tally.field-0.0 = search rules in
    rw e (second_fails old two three _ _ _ both _ _ c.in_err-tally.ensures.read)

pub returns-in_err-held : goal.returns-in_err-held
returns-in_err-held g c =
    let old = state g.S.Store c.args.conn.now in
    let one = state g.S.Store c.revision.new.conn in
    let two = state g.S.Store c.is_author.new.conn in
    let three = state g.S.Store c.tally.new.conn in
    let new = state g.S.Store c.is_held.new.conn in
    let both = read_pair old one two _ _ _ _ c.in_ok-revision.ensures.read c.in_ok-by_author.ensures.read in
    let all = read_pair old two three _ _ _ _ both c.in_ok-tally.ensures.read in
    let e : c.from_residual-in_err-held.result ≡ Err c.in_err-held.field-0.0 = search rules in
    rw e (second_fails old three new _ _ _ all _ _ c.in_err-held.ensures.read)

pub returns : goal.returns
returns g c =
    let old = state g.S.Store c.args.conn.now in
    let one = state g.S.Store c.revision.new.conn in
    let two = state g.S.Store c.is_author.new.conn in
    let three = state g.S.Store c.tally.new.conn in
    let new = state g.S.Store c.is_held.new.conn in
    let both = read_pair old one two _ _ _ _ c.in_ok-revision.ensures.read c.in_ok-by_author.ensures.read in
    let all = read_pair old two three _ _ _ _ both c.in_ok-tally.ensures.read in
    read_both old three new _ _ _ all _ _ _
    (λ t before is_held. looked_found c.args.name.now c.args.number c.args.caller.now.name c.in_ok-revision.revision c.in_ok-by_author.by_author
    c.in_ok-tally.tally c.in_ok-held.held t before.0.0 before.0.1 before.1 is_held)
    c.in_ok-held.ensures.read
