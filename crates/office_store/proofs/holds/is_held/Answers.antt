use Rattle.sqlite.specs.Held.{state}
use Rattle.office_store.specs.declared.holds.TheConstants.{HOLD_OF}
use Rattle.office_store.proofs.Texts as texts
use Rattle.office_store.proofs.OtherReads.{reads_hold}
use Rattle.office_store.proofs.Told.{any_read}
use Rattle.office_store.proofs.holds.is_held.Goals as goal

pub returns-clause-read : goal.returns-clause-read
returns-clause-read g c =
    let old = state g.S.Store c.args.conn.now in
    let new = state g.S.Store c.finds_any.new.conn in
    any_read HOLD_OF.now _ _ (texts.hold_of c.args.profile.now) old new c.requires c.finds_any.ensures.mode (g.met.S.Store.settled c.finds_any.new.conn.store) c.finds_any.ensures.survives c.of_profile.ensures.row
    _ _ c.finds_any.ensures.told (λ t shows. reads_hold old new t shows c.args.profile.now)

pub returns-clause-told : goal.returns-clause-told
returns-clause-told g c clean = rw c.of_profile.ensures.row at (c.finds_any.ensures.told clean)
