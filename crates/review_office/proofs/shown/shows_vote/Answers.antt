use Rattle.sqlite.specs.Held.{state}
use Rattle.office_judging.proofs.Judging.{read_left, read_both, second_fails}
use Rattle.review_office.proofs.Looking.{vote_shown}
use Rattle.review_office.proofs.shown.shows_vote.Goals as goal

pub returns-in_err-voter : goal.returns-in_err-voter
returns-in_err-voter g c =
    read_left _ _ _ _ c.in_err-voter.field-0.0 c.from_residual-in_err-voter.ensures.1
    (second_fails (state g.S.Store c.args.conn.now) (state g.S.Store c.ballot_of.new.conn) (state g.S.Store c.user_by_name.new.conn) _ _
    c.in_ok-found.found c.in_ok-found.ensures.read _ c.in_err-voter.field-0.0 c.in_err-voter.ensures.read)

pub returns : goal.returns
returns g c =
    read_both (state g.S.Store c.args.conn.now) (state g.S.Store c.ballot_of.new.conn) (state g.S.Store c.user_by_name.new.conn) _ _
    c.in_ok-found.found c.in_ok-found.ensures.read _ c.in_ok-voter.voter _
    (λ t is who. vote_shown t c.args.name.now c.args.number c.args.caller.now c.args.approves c.is_vote.result c.in_ok-found.found c.in_ok-voter.voter is who c.is_vote.ensures)
    c.in_ok-voter.ensures.read
