use Rattle.sqlite.specs.Held.{state}
use Rattle.office_store.proofs.Calls.{write_into}
use Rattle.office_words.specs.Changes.{with_baseline}
use Rattle.office_store.specs.Writes.{putting_baseline}
use Rattle.office_store.proofs.OtherWrites.{baseline_steps}
use Rattle.office_store.proofs.baselines.put_baseline.Goals as goal

pub returns-clause-write : goal.returns-clause-write
returns-clause-write g c =
    write_into g.S.Store (putting_baseline c.args.profile.now c.args.number) (state g.S.Store c.args.conn.now) (state g.S.Store c.write_one.new.conn) _ (with_baseline c.args.profile.now c.args.number)
    (λ t. baseline_steps g.S.Store c.args.profile.now c.args.number t c.of_baseline.ensures.formed) (rw c.of_baseline.ensures.row at c.write_one.ensures.write)

pub returns-clause-cause : goal.returns-clause-cause
returns-clause-cause g c clean = rw c.of_baseline.ensures.row at (c.write_one.ensures.cause clean)
