use Rattle.sqlite.specs.Held.{state}
use Rattle.office_store.proofs.Calls.{write_into}
use Rattle.office_words.specs.Changes.{with_issued}
use Rattle.office_store.specs.Writes.{issuing}
use Rattle.office_store.proofs.RevisionWrites.{issue_steps}
use Rattle.office_store.proofs.revisions.set_issued.Goals as goal

pub returns-clause-write : goal.returns-clause-write
returns-clause-write g c =
    write_into g.S.Store (issuing c.args.profile.now c.args.number) (state g.S.Store c.args.conn.now) (state g.S.Store c.write_two.new.conn) _ (with_issued c.args.profile.now c.args.number)
    (λ t. issue_steps g.S.Store c.args.profile.now c.args.number t) (rw (c.of_profile.ensures.row, c.of_number.ensures.row) at c.write_two.ensures.write)

pub returns-clause-cause : goal.returns-clause-cause
returns-clause-cause g c clean = rw (c.of_profile.ensures.row, c.of_number.ensures.row) at (c.write_two.ensures.cause clean)
