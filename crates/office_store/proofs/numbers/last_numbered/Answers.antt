use Rattle.sqlite.specs.Held.{state}
use Rattle.office_store.specs.declared.numbers.TheConstants.{LAST_NUMBERED}
use Rattle.office_store.proofs.Texts as texts
use Rattle.office_store.specs.Numbered.{numbered_row, IsNumbered}
use Rattle.office_store.proofs.RevisionReads.{reads_last_numbered}
use Rattle.office_store.proofs.ToldLists.{same_numbered_row}
use Rattle.office_store.proofs.Told.{value_read}
use Rattle.office_store.proofs.numbers.last_numbered.Goals as goal

pub returns-clause-read : goal.returns-clause-read
returns-clause-read g c =
    let old = state g.S.Store c.args.conn.now in
    let new = state g.S.Store c.find.new.conn in
    value_read LAST_NUMBERED.now _ _ (texts.last_numbered c.args.profile.now) old new c.requires c.find.ensures.mode (g.met.S.Store.settled c.find.new.conn.store) c.find.ensures.survives c.of_profile.ensures.row
    numbered_row IsNumbered same_numbered_row _ _ c.find.ensures.told (λ t shows. reads_last_numbered old new t shows c.args.profile.now)

pub returns-clause-told : goal.returns-clause-told
returns-clause-told g c clean = rw c.of_profile.ensures.row at (c.find.ensures.told clean)
