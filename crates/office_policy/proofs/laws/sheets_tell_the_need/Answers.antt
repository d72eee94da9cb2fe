use Rattle.std.proofs.Common.{sym, ap}
use Rattle.office_policy.specs.Need.{need_of_row}
use Rattle.office_policy.proofs.laws.sheets_tell_the_need.Goals as goal

pub returns : goal.returns
returns c = λ h p n r there. sym (ap (need_of_row h p.team) there)
