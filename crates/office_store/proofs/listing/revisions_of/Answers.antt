use Rattle.sqlite.specs.Held.{state}
use Rattle.office_store.specs.declared.listing.TheConstants.{REVISIONS_OF}
use Rattle.office_store.proofs.Texts as texts
use Rattle.office_words.specs.Lists.{AreRevisionsOf}
use Rattle.office_store.specs.Lists.{listed_row, IsListedForm}
use Rattle.office_store.proofs.ListingReads.{reads_listed}
use Rattle.office_store.proofs.ToldLists.{same_listed_row}
use Rattle.office_store.proofs.Told.{values_read}
use Rattle.office_store.proofs.listing.revisions_of.Goals as goal

pub returns-clause-read : goal.returns-clause-read
returns-clause-read g c =
    let old = state g.S.Store c.args.conn.now in
    let new = state g.S.Store c.find_all.new.conn in
    values_read REVISIONS_OF.now _ _ (texts.revisions_of c.args.team.now) old new c.requires c.find_all.ensures.mode (g.met.S.Store.settled c.find_all.new.conn.store) c.find_all.ensures.survives c.of_word.ensures.row
    listed_row IsListedForm same_listed_row (λ values. values.items) (λ t listed. AreRevisionsOf t c.args.team.now listed) _ c.find_all.ensures.told (λ t shows. reads_listed old new t shows c.args.team.now)

pub returns-clause-told : goal.returns-clause-told
returns-clause-told g c clean = rw c.of_word.ensures.row at (c.find_all.ensures.told clean)
