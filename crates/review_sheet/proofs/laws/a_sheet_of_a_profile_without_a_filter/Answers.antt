use Rattle.review_sheet.proofs.BareSheet.{bare_sheet}
use Rattle.review_sheet.proofs.laws.a_sheet_of_a_profile_without_a_filter.Goals as goal

pub returns : goal.returns
returns c = bare_sheet
