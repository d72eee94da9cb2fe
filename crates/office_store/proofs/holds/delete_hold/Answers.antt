use Rattle.sqlite.specs.Held.{state}
use Rattle.office_store.proofs.Calls.{write_into}
use Rattle.office_words.specs.Changes.{without_hold}
use Rattle.office_store.specs.Writes.{releasing}
use Rattle.office_store.proofs.OtherWrites.{unhold_steps}
use Rattle.office_store.proofs.holds.delete_hold.Goals as goal

pub returns-clause-write : goal.returns-clause-write
returns-clause-write g c =
    write_into g.S.Store (releasing c.args.profile.now) (state g.S.Store c.args.conn.now) (state g.S.Store c.write_one.new.conn) _ (without_hold c.args.profile.now)
    (λ t. unhold_steps g.S.Store c.args.profile.now t) (rw (c.of_profile.ensures.row) at c.write_one.ensures.write)

pub returns-clause-cause : goal.returns-clause-cause
returns-clause-cause g c clean = rw (c.of_profile.ensures.row) at (c.write_one.ensures.cause clean)
