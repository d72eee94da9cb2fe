use Rattle.std.proofs.Common.{subst, sym}
use Rattle.review_office.specs.Carries.{Asks, write_on_revision}
use Rattle.review_office.proofs.carry_out.write_on_revision.Goals as goal

pub returns-in-Issues : goal.returns-in-Issues
returns-in-Issues g c =
    subst (λ effect. Asks g.S.Store (write_on_revision effect c.args.name.now c.args.number) c.args.conn.now c.set_issued.new.conn c.set_issued.result) (sym c.in-Issues.is) (record { written = c.set_issued.ensures.write; cause = c.set_issued.ensures.cause })

pub returns-in-Withdraws : goal.returns-in-Withdraws
returns-in-Withdraws g c =
    subst (λ effect. Asks g.S.Store (write_on_revision effect c.args.name.now c.args.number) c.args.conn.now c.set_withdrawn.new.conn c.set_withdrawn.result) (sym c.in-Withdraws.is) (record { written = c.set_withdrawn.ensures.write; cause = c.set_withdrawn.ensures.cause })

pub returns-in-Adopts : goal.returns-in-Adopts
returns-in-Adopts g c =
    subst (λ effect. Asks g.S.Store (write_on_revision effect c.args.name.now c.args.number) c.args.conn.now c.put_baseline.new.conn c.put_baseline.result) (sym c.in-Adopts.is) (record { written = c.put_baseline.ensures.write; cause = c.put_baseline.ensures.cause })
