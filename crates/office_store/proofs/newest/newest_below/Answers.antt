use Rattle.sqlite.specs.Held.{state}
use Rattle.office_store.specs.declared.newest.TheConstants.{NEWEST_BELOW}
use Rattle.office_store.proofs.Texts as texts
use Rattle.office_words.specs.Lists.{AreNewest}
use Rattle.office_store.specs.Lists.{told_row, IsToldForm, most_read}
use Rattle.office_store.proofs.NewestReads.{reads_newest}
use Rattle.office_store.proofs.ToldLists.{same_told_row}
use Rattle.office_store.proofs.Told.{values_read}
use Rattle.office_store.proofs.newest.newest_below.Goals as goal

pub returns-clause-read : goal.returns-clause-read
returns-clause-read g c =
    let old = state g.S.Store c.args.conn.now in
    let new = state g.S.Store c.find_all.new.conn in
    values_read NEWEST_BELOW.now _ _ (texts.newest_below c.args.profile.now c.args.below) old new c.requires c.find_all.ensures.mode (g.met.S.Store.settled c.find_all.new.conn.store) c.find_all.ensures.survives c.of_number.ensures.row
    told_row IsToldForm same_told_row (λ values. values.items) (λ t told. AreNewest t c.args.profile.now c.args.below most_read told) _ c.find_all.ensures.told (λ t shows. reads_newest old new t shows c.args.profile.now c.args.below)

pub returns-clause-told : goal.returns-clause-told
returns-clause-told g c clean = rw c.of_number.ensures.row at (c.find_all.ensures.told clean)
