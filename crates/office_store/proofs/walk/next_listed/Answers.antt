use Rattle.std.proofs.Common.{◌≡◌, Some, Err, ◌++◌, ◌∷◌, [], rules, subst}
use Rattle.sqlite.specs.Held.{state}
use Rattle.office_store.specs.declared.walk.TheConstants.{LISTED_ABOVE}
use Rattle.office_store.specs.Lists.{listed_row, IsListedForm, IsNextListed}
use Rattle.office_store.proofs.Calls.{fails_unread}
use Rattle.office_store.proofs.RowsOf.{row_as}
use Rattle.office_store.proofs.Texts as texts
use Rattle.office_store.proofs.Told.{value_read}
use Rattle.office_store.proofs.ToldLists.{same_listed_row}
use Rattle.office_store.proofs.WalkReads.{reads_above, next_above}
use Rattle.office_store.proofs.walk.next_listed.Goals as goal

pub returns-in_err-bound : goal.returns-in_err-bound
returns-in_err-bound g c =
    let e : c.from_residual.result ≡ Err c.in_err-bound.field-0.0 = search rules in
    rw e (fails_unread (state g.S.Store c.args.conn.now) c.in_err-bound.field-0.0 _ c.requires c.in_err-bound.ensures.cause (g.met.S.Store.settled c.args.conn.now.store))

pub returns : goal.returns
returns g c =
    let old = state g.S.Store c.args.conn.now in
    let new = state g.S.Store c.find.new.conn in
    let team = c.args.team.now in
    let name = c.args.name.now in
    let text = c.as_str.result.now in
    let is : c.as_str.result.now ≡ name ++ 32 ∷ [] = search rules in
    value_read LISTED_ABOVE.now _ _ (texts.listed_above team text) old new c.requires c.find.ensures.mode (g.met.S.Store.settled c.find.new.conn.store) c.find.ensures.survives c.of_bound.ensures
    listed_row IsListedForm same_listed_row _ _ c.find.ensures.told
    (λ t shows row h. row_as listed_row IsListedForm _ _ (λ l it. next_above old new t shows team name l (subst (λ text. IsNextListed t team (Some text) l) is it)) row (reads_above old new t shows team text row h))
