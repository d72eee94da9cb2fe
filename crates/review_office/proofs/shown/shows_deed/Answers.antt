use Rattle.std.proofs.Common.{◌≡◌, true, sym, subst}
use Rattle.std.specs.Prelude.{◌↔◌}
use Rattle.sqlite.specs.Held.{state}
use Rattle.office_store.specs.Calls.{IsRead}
use Rattle.office_policy.specs.History.{did}
use Rattle.office_policy.specs.ShowsEvent.{Shows}
use Rattle.review_office.proofs.shown.shows_deed.Goals as goal

pub returns-in-Submit : goal.returns-in-Submit
returns-in-Submit g c =
    subst (λ deed. IsRead (state g.S.Store c.args.conn.now) (state g.S.Store c.shows_submission.new.conn) c.shows_submission.result (λ t shown. shown ≡ true ↔ Shows t (did c.args.caller.now deed)))
    (sym c.in-Submit.is) c.shows_submission.ensures

pub returns-in-ActOnRevision : goal.returns-in-ActOnRevision
returns-in-ActOnRevision g c =
    subst (λ deed. IsRead (state g.S.Store c.args.conn.now) (state g.S.Store c.shows_effect.new.conn) c.shows_effect.result (λ t shown. shown ≡ true ↔ Shows t (did c.args.caller.now deed)))
    (sym c.in-ActOnRevision.is) (rw c.effect.ensures at c.shows_effect.ensures)
