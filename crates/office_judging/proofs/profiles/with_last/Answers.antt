use Rattle.sqlite.specs.Held.{state}
use Rattle.office_judging.proofs.Judging.{read_as}
use Rattle.office_judging.proofs.Standing.{by_last}
use Rattle.office_judging.proofs.profiles.with_last.Goals as goal

pub returns : goal.returns
returns g c =
    read_as (state g.S.Store c.args.conn.now) (state g.S.Store c.issue.new.conn) _ _ c.in_ok-issued.issued _
    (λ t. by_last c.args.name.now t c.args.last c.in_ok-issued.issued c.args.in_state) c.in_ok-issued.ensures
