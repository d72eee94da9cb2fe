use Rattle.office_judging.proofs.Standing.{stands_as}
use Rattle.office_judging.proofs.profiles.listed_as.Goals as goal

pub returns : goal.returns
returns c h team is = stands_as h team c.args.name c.args.standing is
