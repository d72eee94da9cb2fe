use Rattle.std.proofs.Common.{sym, subst}
use Rattle.sqlite.specs.Held.{state}
use Rattle.office_words.specs.Reads.{Adds}
use Rattle.office_store.specs.Steps.{AreSteps}
use Rattle.office_store.specs.Writes.{adding_revision}
use Rattle.office_store.proofs.Calls.{write_as}
use Rattle.office_store.proofs.RevisionWrites.{add_steps}
use Rattle.office_store.proofs.revisions.add_revision.Goals as goal

pub returns-clause-write : goal.returns-clause-write
returns-clause-write g c =
    write_as (state g.S.Store c.args.conn.now) (state g.S.Store c.write_two.new.conn) _ (AreSteps g.S.Store (adding_revision c.args.profile.now c.args.revision.now)) (Adds c.args.profile.now c.args.revision.now)
    (λ t u adds. subst (λ v. AreSteps g.S.Store (adding_revision c.args.profile.now c.args.revision.now) t v) (sym adds.1) (add_steps g.S.Store c.args.profile.now c.args.revision.now t c.of_revision-added.ensures.formed adds.0))
    (rw (c.of_profile.ensures.row, c.of_revision-added.ensures.row) at c.write_two.ensures.write)

pub returns-clause-cause : goal.returns-clause-cause
returns-clause-cause g c clean = rw (c.of_profile.ensures.row, c.of_revision-added.ensures.row) at (c.write_two.ensures.cause clean)
