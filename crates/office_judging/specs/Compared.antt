-- What the revisions of a team are compared with, and their review sheets.
use Rattle.std.specs.Prelude.{ℕ, List, option_map}
use Rattle.office_words.specs.declared.name.ProfileName.{ProfileName}
use Rattle.review_policy.specs.declared.denial.Need.{Need}
use Rattle.office_words.specs.declared.revision.VoteRow.{VoteRow}
use Rattle.review_sheet.specs.Facts.{SheetValue}
use Rattle.office_words.specs.declared.row.RevisionRow.{RevisionRow}
use Rattle.office_policy.specs.History.{History}
use Rattle.office_policy.specs.Baseline.{listed_of, adopted_revision, document_or_closed}
use Rattle.office_policy.specs.Documents.{document_of}
use Rattle.office_policy.specs.Need.{need_against}
use Rattle.office_judging.specs.declared.baseline.Comparison.{Comparison}

-- what the revisions of a team are compared with
abbrev pub compared_at : History → (team : List ℕ) → Comparison
compared_at h team = record { listed = listed_of h; adopted = adopted_revision h team }

-- how many approvals a text needs, against what it is compared with
abbrev pub need_of : Comparison → List ℕ → Need
need_of compared body =
    need_against compared.listed (document_or_closed compared.adopted) (document_of body)

-- what the sheet of a revision shows, against what it is compared with, with its votes
abbrev pub sheet_against : Comparison → List VoteRow → ProfileName → RevisionRow → SheetValue
sheet_against compared votes p r = record {
  team = p.team;
  profile = p.profile;
  number = r.number;
  state = r.state;
  digest = r.digest;
  baseline = option_map (λ found. (found.0, found.1.number)) compared.adopted;
  base = document_or_closed compared.adopted;
  shown = document_of r.body;
  listed = compared.listed;
  votes = votes;
}
