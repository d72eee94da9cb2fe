use Rattle.std.proofs.Common.{◌≡◌, subst}
use Rattle.office_words.specs.Reads.{IsLast}
use Rattle.office_policy.specs.Revisions.{last_revision}
use Rattle.office_policy.proofs.Submissions.{last_found}
use Rattle.review_office.specs.Looking.{HasLookedBack}
use Rattle.review_office.specs.Meant.{meaning_over}
use Rattle.review_office.proofs.Looking.{looked}
use Rattle.review_office.proofs.office.Office.last_revision.Goals as goal

pub returns : goal.returns
returns g c =
    let p = c.args.name.now in
    subst (λ old. HasLookedBack (meaning_over g.S.Store) old c.last.new.conn (λ h. last_revision h p) c.last.result) c.self.view_is
    (looked g.S.Store c.self.inside.conn c.last.new.conn (λ t found. IsLast t p found) (λ h found. found ≡ last_revision h p) (λ h found lawful is. last_found h p found is)
    c.last.result c.last.ensures.read)
