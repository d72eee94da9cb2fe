use Rattle.std.proofs.Common.{subst, sym}
use Rattle.review_office.specs.Carries.{Asks, write_on_profile}
use Rattle.review_office.proofs.carry_out.write_on_profile.Goals as goal

pub returns-in-Hold : goal.returns-in-Hold
returns-in-Hold g c =
    subst (λ act. Asks g.S.Store (write_on_profile act c.args.name.now) c.args.conn.now c.put_hold.new.conn c.put_hold.result) (sym c.in-Hold.is) (record { written = c.put_hold.ensures.write; cause = c.put_hold.ensures.cause })

pub returns-in-Release : goal.returns-in-Release
returns-in-Release g c =
    subst (λ act. Asks g.S.Store (write_on_profile act c.args.name.now) c.args.conn.now c.delete_hold.new.conn c.delete_hold.result) (sym c.in-Release.is) (record { written = c.delete_hold.ensures.write; cause = c.delete_hold.ensures.cause })
