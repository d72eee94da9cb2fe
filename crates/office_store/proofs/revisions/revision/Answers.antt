use Rattle.sqlite.specs.Held.{state}
use Rattle.office_store.specs.declared.revisions.TheConstants.{REVISION_AT}
use Rattle.office_store.proofs.Texts as texts
use Rattle.office_store.specs.Entries.{revision_columns, IsRevisionForm}
use Rattle.office_store.proofs.RevisionReads.{reads_revision, same_columns}
use Rattle.office_store.proofs.Told.{value_read}
use Rattle.office_store.proofs.revisions.revision.Goals as goal

pub returns-clause-read : goal.returns-clause-read
returns-clause-read g c =
    let old = state g.S.Store c.args.conn.now in
    let new = state g.S.Store c.find.new.conn in
    value_read REVISION_AT.now _ _ (texts.revision_at c.args.profile.now c.args.number) old new c.requires c.find.ensures.mode (g.met.S.Store.settled c.find.new.conn.store) c.find.ensures.survives c.of_number.ensures.row
    revision_columns IsRevisionForm same_columns _ _ c.find.ensures.told (λ t shows. reads_revision old new t shows c.args.profile.now c.args.number)

pub returns-clause-told : goal.returns-clause-told
returns-clause-told g c clean = rw c.of_number.ensures.row at (c.find.ensures.told clean)
