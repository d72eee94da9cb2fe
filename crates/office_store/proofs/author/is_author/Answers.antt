use Rattle.sqlite.specs.Held.{state}
use Rattle.office_store.specs.declared.author.TheConstants.{REVISION_BY}
use Rattle.office_store.proofs.Texts as texts
use Rattle.office_store.proofs.AuthorReads.{reads_by}
use Rattle.office_store.proofs.Told.{any_read}
use Rattle.office_store.proofs.author.is_author.Goals as goal

pub returns-clause-read : goal.returns-clause-read
returns-clause-read g c =
    let old = state g.S.Store c.args.conn.now in
    let new = state g.S.Store c.finds_any.new.conn in
    any_read REVISION_BY.now _ _ (texts.revision_by c.args.profile.now c.args.author.now) old new c.requires c.finds_any.ensures.mode (g.met.S.Store.settled c.finds_any.new.conn.store) c.finds_any.ensures.survives c.of_author.ensures.row
    _ _ c.finds_any.ensures.told (λ t shows. reads_by old new t shows c.args.profile.now c.args.author.now)

pub returns-clause-told : goal.returns-clause-told
returns-clause-told g c clean = rw c.of_author.ensures.row at (c.finds_any.ensures.told clean)
