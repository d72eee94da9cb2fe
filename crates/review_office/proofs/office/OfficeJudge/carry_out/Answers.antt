use Rattle.std.proofs.Common.{sym, subst}
use Rattle.office_policy.specs.Handled.{Survives}
use Rattle.office_policy.specs.Judging.{IsPermitted}
use Rattle.review_office.specs.Carries.{write_of}
use Rattle.review_office.specs.Meant.{meaning_over}
use Rattle.review_office.proofs.Carrying.{call_survives, carried_is}
use Rattle.review_office.proofs.office.OfficeJudge.carry_out.Goals as goal

pub returns-clause-survives : goal.returns-clause-survives
returns-clause-survives g c =
    subst (λ old. Survives (meaning_over g.S.Store) old c.carry_out.new.conn) c.self.view_is
    (call_survives g.S.Store c.self.inside.conn c.carry_out.new.conn (write_of c.args.allowed.now) c.carry_out.result c.carry_out.ensures)

pub returns-clause-handled : goal.returns-clause-handled
returns-clause-handled g c = λ before request permitted.
    carried_is g.S.Store before c.self.inside.conn c.carry_out.new.conn request c.args.allowed.now
    (subst (λ old. IsPermitted (meaning_over g.S.Store) before old request c.args.allowed.now) (sym c.self.view_is) permitted) c.carry_out.result c.carry_out.ensures
