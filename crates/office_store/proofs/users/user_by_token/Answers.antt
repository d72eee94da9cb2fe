use Rattle.sqlite.specs.Held.{state}
use Rattle.office_store.specs.declared.users.TheConstants.{USER_BY_TOKEN}
use Rattle.office_store.proofs.Texts as texts
use Rattle.office_store.specs.Entries.{user_row, IsUser}
use Rattle.office_store.proofs.UserReads.{reads_showing, same_user}
use Rattle.office_store.proofs.Told.{value_read}
use Rattle.office_store.proofs.users.user_by_token.Goals as goal

pub returns-clause-read : goal.returns-clause-read
returns-clause-read g c =
    let old = state g.S.Store c.args.conn.now in
    let new = state g.S.Store c.find.new.conn in
    value_read USER_BY_TOKEN.now _ _ (texts.user_by_token c.args.digest.now) old new c.requires c.find.ensures.mode (g.met.S.Store.settled c.find.new.conn.store) c.find.ensures.survives c.of_digest.ensures
    user_row IsUser same_user _ _ c.find.ensures.told (λ t shows. reads_showing old new t shows c.args.digest.now)

pub returns-clause-told : goal.returns-clause-told
returns-clause-told g c clean = rw c.of_digest.ensures at (c.find.ensures.told clean)
