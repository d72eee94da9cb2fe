use Rattle.review_sheet.proofs.DetailedSheet.{detailed_sheet}
use Rattle.review_sheet.proofs.laws.a_sheet_with_each_part.Goals as goal

pub returns-clause-sheet : goal.returns-clause-sheet
returns-clause-sheet c = detailed_sheet
