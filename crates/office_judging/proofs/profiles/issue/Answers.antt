use Rattle.std.proofs.Common.{None, Some}
use Rattle.sqlite.specs.Held.{state}
use Rattle.office_judging.proofs.Judging.{read_as}
use Rattle.office_judging.proofs.Standing.{issue_numbered, none_issued}
use Rattle.office_judging.proofs.profiles.issue.Goals as goal

pub returns-in-Some : goal.returns-in-Some
returns-in-Some g c =
    read_as (state g.S.Store c.args.conn.now) (state g.S.Store c.issued_number.new.conn) _ _ (Some c.in-Some.number) c.in-Some.number
    (issue_numbered c.args.name.now c.in-Some.number) (rw c.in-Some.is at c.in_ok-number.ensures.read)

pub returns-in-None : goal.returns-in-None
returns-in-None g c =
    read_as (state g.S.Store c.args.conn.now) (state g.S.Store c.issued_number.new.conn) _ _ None 0
    (none_issued c.args.name.now) (rw c.in-None.is at c.in_ok-number.ensures.read)
