-- Review sheets, by looking back.
use Rattle.std.specs.Prelude.{option_map}
use Rattle.office_words.specs.declared.name.ProfileName.{ProfileName}
use Rattle.office_words.specs.declared.row.RevisionRow.{RevisionRow}
use Rattle.review_sheet.specs.Facts.{SheetValue}
use Rattle.office_policy.specs.History.{History}
use Rattle.office_policy.specs.Votes.{standing_votes}
use Rattle.office_policy.specs.Documents.{document_of}
use Rattle.office_policy.specs.Baseline.{adopted_revision, baseline_of, listed_of}

-- what the sheet of a revision shows, at this moment
abbrev pub sheet_of : History → ProfileName → RevisionRow → SheetValue
sheet_of h p r = record {
  team = p.team;
  profile = p.profile;
  number = r.number;
  state = r.state;
  digest = r.digest;
  baseline = option_map (λ found. (found.0, found.1.number)) (adopted_revision h p.team);
  base = baseline_of h p.team;
  shown = document_of r.body;
  listed = listed_of h;
  votes = standing_votes h p r.number;
}
