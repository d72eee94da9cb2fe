use Rattle.sqlite.specs.Held.{state}
use Rattle.office_store.specs.declared.author.TheConstants.{AUTHORS_OF}
use Rattle.office_store.proofs.Texts as texts
use Rattle.office_words.specs.Lists.{AreAuthors}
use Rattle.office_store.specs.Lists.{name_row, IsWord}
use Rattle.office_store.proofs.AuthorReads.{reads_authors}
use Rattle.office_store.proofs.ToldLists.{same_name_row}
use Rattle.office_store.proofs.Told.{values_read}
use Rattle.office_store.proofs.author.authors.Goals as goal

pub returns-clause-read : goal.returns-clause-read
returns-clause-read g c =
    let old = state g.S.Store c.args.conn.now in
    let new = state g.S.Store c.find_all.new.conn in
    values_read AUTHORS_OF.now _ _ (texts.authors_of c.args.profile.now) old new c.requires c.find_all.ensures.mode (g.met.S.Store.settled c.find_all.new.conn.store) c.find_all.ensures.survives c.of_profile.ensures.row
    name_row IsWord same_name_row (λ values. values.items) (λ t names. AreAuthors t c.args.profile.now names) _ c.find_all.ensures.told (λ t shows. reads_authors old new t shows c.args.profile.now)

pub returns-clause-told : goal.returns-clause-told
returns-clause-told g c clean = rw c.of_profile.ensures.row at (c.find_all.ensures.told clean)
