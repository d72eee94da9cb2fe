use Rattle.std.proofs.Common.{◌≡◌, subst}
use Rattle.office_policy.specs.Revisions.{revision_of}
use Rattle.review_office.specs.Looking.{HasLookedBack}
use Rattle.review_office.specs.Meant.{meaning_over}
use Rattle.review_office.proofs.Looking.{looked}
use Rattle.review_office.proofs.office.Office.revision.Goals as goal

pub returns : goal.returns
returns g c =
    let p = c.args.name.now in
    let n = c.args.number in
    subst (λ old. HasLookedBack (meaning_over g.S.Store) old c.revision.new.conn (λ h. revision_of h p n) c.revision.result) c.self.view_is
    (looked g.S.Store c.self.inside.conn c.revision.new.conn (λ t found. found ≡ t.revisions p n) (λ h found. found ≡ revision_of h p n) (λ h found lawful is. is)
    c.revision.result c.revision.ensures.read)
