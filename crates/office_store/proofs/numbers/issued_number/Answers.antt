use Rattle.sqlite.specs.Held.{state}
use Rattle.office_store.specs.declared.numbers.TheConstants.{ISSUED_NUMBER}
use Rattle.office_store.proofs.Texts as texts
use Rattle.office_store.specs.Lists.{number_row, IsNumber}
use Rattle.office_store.proofs.RevisionReads.{reads_issued_number}
use Rattle.office_store.proofs.ToldLists.{same_number_row}
use Rattle.office_store.proofs.Told.{value_read}
use Rattle.office_store.proofs.numbers.issued_number.Goals as goal

pub returns-clause-read : goal.returns-clause-read
returns-clause-read g c =
    let old = state g.S.Store c.args.conn.now in
    let new = state g.S.Store c.find.new.conn in
    value_read ISSUED_NUMBER.now _ _ (texts.issued_number c.args.profile.now) old new c.requires c.find.ensures.mode (g.met.S.Store.settled c.find.new.conn.store) c.find.ensures.survives c.of_profile.ensures.row
    number_row IsNumber same_number_row _ _ c.find.ensures.told (λ t shows. reads_issued_number old new t shows c.args.profile.now)

pub returns-clause-told : goal.returns-clause-told
returns-clause-told g c clean = rw c.of_profile.ensures.row at (c.find.ensures.told clean)
