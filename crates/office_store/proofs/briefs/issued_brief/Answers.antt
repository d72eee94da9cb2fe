use Rattle.sqlite.specs.Held.{state}
use Rattle.office_store.specs.declared.briefs.TheConstants.{ISSUED_BRIEF}
use Rattle.office_store.proofs.Texts as texts
use Rattle.office_store.specs.Briefs.{brief_row, IsBrief}
use Rattle.office_store.proofs.RevisionReads.{reads_issued_brief, same_brief}
use Rattle.office_store.proofs.Told.{value_read}
use Rattle.office_store.proofs.briefs.issued_brief.Goals as goal

pub returns-clause-read : goal.returns-clause-read
returns-clause-read g c =
    let old = state g.S.Store c.args.conn.now in
    let new = state g.S.Store c.find.new.conn in
    value_read ISSUED_BRIEF.now _ _ (texts.issued_brief c.args.profile.now) old new c.requires c.find.ensures.mode (g.met.S.Store.settled c.find.new.conn.store) c.find.ensures.survives c.of_profile.ensures.row
    brief_row IsBrief same_brief _ _ c.find.ensures.told (λ t shows. reads_issued_brief old new t shows c.args.profile.now)

pub returns-clause-told : goal.returns-clause-told
returns-clause-told g c clean = rw c.of_profile.ensures.row at (c.find.ensures.told clean)
