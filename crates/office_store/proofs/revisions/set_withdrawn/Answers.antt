use Rattle.sqlite.specs.Held.{state}
use Rattle.office_store.proofs.Calls.{write_into}
use Rattle.office_words.specs.Changes.{with_withdrawn}
use Rattle.office_store.specs.Writes.{withdrawing}
use Rattle.office_store.proofs.RevisionWrites.{withdraw_steps}
use Rattle.office_store.proofs.revisions.set_withdrawn.Goals as goal

pub returns-clause-write : goal.returns-clause-write
returns-clause-write g c =
    write_into g.S.Store (withdrawing c.args.profile.now c.args.number) (state g.S.Store c.args.conn.now) (state g.S.Store c.write_one.new.conn) _ (with_withdrawn c.args.profile.now c.args.number)
    (λ t. withdraw_steps g.S.Store c.args.profile.now c.args.number t) (rw (c.of_number.ensures.row) at c.write_one.ensures.write)

pub returns-clause-cause : goal.returns-clause-cause
returns-clause-cause g c clean = rw (c.of_number.ensures.row) at (c.write_one.ensures.cause clean)
