-- What is read for a sheet is the sheet of looking back, and what is answered of it.
use Rattle.std.proofs.Common.{◌≡◌, ◌∙◌, ℕ, List, Some, None, ap, subst}
use Rattle.std.specs.Prelude.{option_map}
use Rattle.office_words.specs.declared.name.ProfileName.{ProfileName}
use Rattle.office_words.specs.declared.revision.VoteRow.{VoteRow}
use Rattle.review_sheet.specs.Sheet.{sheet_text}
use Rattle.office_words.specs.declared.row.RevisionRow.{RevisionRow}
use Rattle.office_words.specs.Tables.{Tables}
use Rattle.office_words.specs.Lists.{AreStanding}
use Rattle.office_policy.specs.LooksBack.{LooksBack}
use Rattle.office_judging.specs.declared.baseline.Comparison.{Comparison}
use Rattle.office_policy.proofs.StandingFacts.{standing_is}
use Rattle.office_judging.specs.Compared.{compared_at, sheet_against}
use Rattle.office_judging.specs.Sheets.{sheet_at, sheet_text_of}

-- the text is that of the sheet of looking back
pub sheet_back : (p : ProfileName) (r : RevisionRow) (votes : List VoteRow) (compared : Comparison) (text : List ℕ) (t : Tables)
    → AreStanding t p r.number votes → LooksBack (λ h. compared_at h p.team) t compared → text ≡ sheet_text (sheet_against compared votes p r)
    → LooksBack (sheet_text_of p r) t text
sheet_back p r votes compared text t are looks is h lawful same =
    let votes_are = standing_is h p r.number votes (subst (λ u. AreStanding u p r.number votes) same are) in
    let compared_is = looks h lawful same in
    is ∙ (λ i. sheet_text (sheet_against (compared_is i) (votes_are i) p r))

-- of the revision that was found
pub sheet_there : (p : ProfileName) (n : ℕ) (r : RevisionRow) (text : List ℕ) (t : Tables) → Some r ≡ t.revisions p n → LooksBack (sheet_text_of p r) t text
    → LooksBack (sheet_at p n) t (Some text)
sheet_there p n r text t there looks h lawful same =
    ap Some (looks h lawful same) ∙ ap (option_map (λ r. sheet_text_of p r h)) (there ∙ ap (λ u. u.revisions p n) same)

-- and none of one that isn't there
pub no_sheet : (p : ProfileName) (n : ℕ) (t : Tables) → None ≡ t.revisions p n → LooksBack (sheet_at p n) t None
no_sheet p n t there h lawful same = ap (option_map (λ r. sheet_text_of p r h)) (there ∙ ap (λ u. u.revisions p n) same)
