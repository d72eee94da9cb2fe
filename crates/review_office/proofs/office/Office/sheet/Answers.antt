use Rattle.std.proofs.Common.{◌≡◌, refl, subst}
use Rattle.office_policy.specs.LooksBack.{LooksBack}
use Rattle.office_judging.specs.Sheets.{sheet_at}
use Rattle.review_office.specs.Looking.{HasLookedBack}
use Rattle.review_office.specs.Meant.{meaning_over}
use Rattle.review_office.proofs.Looking.{looked}
use Rattle.review_office.proofs.office.Office.sheet.Goals as goal

pub returns : goal.returns
returns g c =
    let look = sheet_at c.args.name.now c.args.number in
    subst (λ old. HasLookedBack (meaning_over g.S.Store) old c.sheet_at.new.conn look c.sheet_at.result) c.self.view_is
    (looked g.S.Store c.self.inside.conn c.sheet_at.new.conn (LooksBack look) (λ h found. found ≡ look h) (λ h found lawful looks. looks h lawful refl)
    c.sheet_at.result c.sheet_at.ensures)
