use Rattle.sqlite.specs.Held.{state}
use Rattle.office_store.specs.declared.revisions.TheConstants.{ISSUED_OF}
use Rattle.office_store.proofs.Texts as texts
use Rattle.office_store.specs.Entries.{revision_columns, IsRevisionForm}
use Rattle.office_store.proofs.RevisionReads.{reads_issued, same_columns}
use Rattle.office_store.proofs.Told.{value_read}
use Rattle.office_store.proofs.revisions.issued.Goals as goal

pub returns-clause-read : goal.returns-clause-read
returns-clause-read g c =
    let old = state g.S.Store c.args.conn.now in
    let new = state g.S.Store c.find.new.conn in
    value_read ISSUED_OF.now _ _ (texts.issued_of c.args.profile.now) old new c.requires c.find.ensures.mode (g.met.S.Store.settled c.find.new.conn.store) c.find.ensures.survives c.of_profile.ensures.row
    revision_columns IsRevisionForm same_columns _ _ c.find.ensures.told (λ t shows. reads_issued old new t shows c.args.profile.now)

pub returns-clause-told : goal.returns-clause-told
returns-clause-told g c clean = rw c.of_profile.ensures.row at (c.find.ensures.told clean)
