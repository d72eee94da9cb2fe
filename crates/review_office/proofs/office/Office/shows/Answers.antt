use Rattle.std.proofs.Common.{◌≡◌, true, subst}
use Rattle.std.specs.Prelude.{◌↔◌}
use Rattle.office_policy.specs.Happened.{event_meant}
use Rattle.office_policy.specs.ShowsEvent.{Shows}
use Rattle.review_office.specs.Looking.{HasLooked, TellsWhether}
use Rattle.review_office.specs.Meant.{meaning_over}
use Rattle.review_office.proofs.Looking.{looked}
use Rattle.review_office.proofs.office.Office.shows.Goals as goal

pub returns : goal.returns
returns g c =
    let e = event_meant c.args.event.now in
    subst (λ old. HasLooked (meaning_over g.S.Store) old c.shows.new.conn (TellsWhether e) c.shows.result) c.self.view_is
    (looked g.S.Store c.self.inside.conn c.shows.new.conn (λ t shown. shown ≡ true ↔ Shows t e) (TellsWhether e) (λ h shown lawful shows. shows)
    c.shows.result c.shows.ensures)
