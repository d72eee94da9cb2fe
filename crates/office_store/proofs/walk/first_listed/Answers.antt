use Rattle.std.proofs.Common.{[]}
use Rattle.sqlite.specs.Held.{state}
use Rattle.office_store.specs.declared.walk.TheConstants.{LISTED_ABOVE}
use Rattle.office_store.specs.Lists.{listed_row, IsListedForm}
use Rattle.office_store.proofs.RowsOf.{row_as}
use Rattle.office_store.proofs.Texts as texts
use Rattle.office_store.proofs.Told.{value_read}
use Rattle.office_store.proofs.ToldLists.{same_listed_row}
use Rattle.office_store.proofs.WalkReads.{reads_above, first_above}
use Rattle.office_store.proofs.walk.first_listed.Goals as goal

pub returns : goal.returns
returns g c =
    let old = state g.S.Store c.args.conn.now in
    let new = state g.S.Store c.find.new.conn in
    let team = c.args.team.now in
    value_read LISTED_ABOVE.now _ _ (texts.listed_above team []) old new c.requires c.find.ensures.mode (g.met.S.Store.settled c.find.new.conn.store) c.find.ensures.survives c.of_bound.ensures
    listed_row IsListedForm same_listed_row _ _ c.find.ensures.told
    (λ t shows row h. row_as listed_row IsListedForm _ _ (first_above old new t shows team) row (reads_above old new t shows team [] row h))
