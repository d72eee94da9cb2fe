use Rattle.sqlite.specs.Held.{state}
use Rattle.office_judging.proofs.Judging.{read_left, read_both, second_fails}
use Rattle.review_office.proofs.Looking.{founding_shown}
use Rattle.review_office.proofs.shown.shows_founding.Goals as goal

pub returns-in_err-found : goal.returns-in_err-found
returns-in_err-found g c =
    read_left _ _ _ _ c.in_err-found.field-0.0 c.from_residual-in_err-found.ensures.1
    (second_fails (state g.S.Store c.args.conn.now) (state g.S.Store c.shows_user.new.conn) (state g.S.Store c.listed.new.conn) _ _
    c.in_ok-has_user.has_user c.in_ok-has_user.ensures _ c.in_err-found.field-0.0 c.in_err-found.ensures.read)

pub returns : goal.returns
returns g c =
    read_both (state g.S.Store c.args.conn.now) (state g.S.Store c.shows_user.new.conn) (state g.S.Store c.listed.new.conn) _ _
    c.in_ok-has_user.has_user c.in_ok-has_user.ensures _ c.in_ok-found.found _
    (λ t has is. founding_shown t c.args.user.now c.args.team.now c.args.digest.now c.registrar_alone.result c.in_ok-found.found c.args.caps c.in_ok-has_user.has_user c.is_founding.result c.registrar_alone.ensures has is c.is_founding.ensures)
    c.in_ok-found.ensures.read
