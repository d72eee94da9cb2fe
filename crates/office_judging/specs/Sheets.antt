-- The review sheets of revisions, by looking back.
use Rattle.std.specs.Prelude.{ℕ, List, Option, option_map}
use Rattle.office_words.specs.declared.name.ProfileName.{ProfileName}
use Rattle.review_sheet.specs.Sheet.{sheet_text}
use Rattle.office_words.specs.declared.row.RevisionRow.{RevisionRow}
use Rattle.office_policy.specs.History.{History}
use Rattle.office_policy.specs.Revisions.{revision_of}
use Rattle.office_policy.specs.Sheets.{sheet_of}

-- the text of the sheet of a revision, at this moment
abbrev pub sheet_text_of : ProfileName → RevisionRow → History → List ℕ
sheet_text_of p r h = sheet_text (sheet_of h p r)

-- the text of the sheet of the revision of this number, where that is there
abbrev pub sheet_at : ProfileName → ℕ → History → Option (List ℕ)
sheet_at p n h = option_map (λ r. sheet_text_of p r h) (revision_of h p n)
