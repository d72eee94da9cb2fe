use Rattle.sqlite.specs.Held.{state}
use Rattle.office_store.specs.declared.users.TheConstants.{USER_BY_NAME}
use Rattle.office_store.proofs.Texts as texts
use Rattle.office_store.specs.Entries.{user_row, IsUser}
use Rattle.office_store.proofs.UserReads.{reads_named, same_user}
use Rattle.office_store.proofs.Told.{value_read}
use Rattle.office_store.proofs.users.user_by_name.Goals as goal

pub returns-clause-read : goal.returns-clause-read
returns-clause-read g c =
    let old = state g.S.Store c.args.conn.now in
    let new = state g.S.Store c.find.new.conn in
    value_read USER_BY_NAME.now _ _ (texts.user_by_name c.args.name.now) old new c.requires c.find.ensures.mode (g.met.S.Store.settled c.find.new.conn.store) c.find.ensures.survives c.of_word.ensures.row
    user_row IsUser same_user _ _ c.find.ensures.told (λ t shows. reads_named old new t shows c.args.name.now)

pub returns-clause-told : goal.returns-clause-told
returns-clause-told g c clean = rw c.of_word.ensures.row at (c.find.ensures.told clean)
