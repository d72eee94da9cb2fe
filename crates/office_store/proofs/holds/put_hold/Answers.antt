use Rattle.sqlite.specs.Held.{state}
use Rattle.office_store.proofs.Calls.{write_into}
use Rattle.office_words.specs.Changes.{with_hold}
use Rattle.office_store.specs.Writes.{holding}
use Rattle.office_store.proofs.OtherWrites.{hold_steps}
use Rattle.office_store.proofs.holds.put_hold.Goals as goal

pub returns-clause-write : goal.returns-clause-write
returns-clause-write g c =
    write_into g.S.Store (holding c.args.profile.now) (state g.S.Store c.args.conn.now) (state g.S.Store c.write_two.new.conn) _ (with_hold c.args.profile.now)
    (λ t. hold_steps g.S.Store c.args.profile.now t c.of_profile-key.ensures.formed) (rw (c.of_profile-key.ensures.row) at c.write_two.ensures.write)

pub returns-clause-cause : goal.returns-clause-cause
returns-clause-cause g c clean = rw (c.of_profile-key.ensures.row) at (c.write_two.ensures.cause clean)
