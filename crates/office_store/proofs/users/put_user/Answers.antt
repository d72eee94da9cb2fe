use Rattle.sqlite.specs.Held.{state}
use Rattle.office_store.proofs.Calls.{write_into}
use Rattle.office_words.specs.Changes.{with_user}
use Rattle.office_store.specs.Writes.{putting_user}
use Rattle.office_store.proofs.UserWrites.{put_steps}
use Rattle.office_store.proofs.users.put_user.Goals as goal

pub returns-clause-write : goal.returns-clause-write
returns-clause-write g c =
    write_into g.S.Store (putting_user c.args.user.now) (state g.S.Store c.args.conn.now) (state g.S.Store c.write_one.new.conn) _ (with_user c.args.user.now)
    (λ t. put_steps g.S.Store c.args.user.now t c.of_user.ensures.formed) (rw c.of_user.ensures.row at c.write_one.ensures.write)

pub returns-clause-cause : goal.returns-clause-cause
returns-clause-cause g c clean = rw c.of_user.ensures.row at (c.write_one.ensures.cause clean)
