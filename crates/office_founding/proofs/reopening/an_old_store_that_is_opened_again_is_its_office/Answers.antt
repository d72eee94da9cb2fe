use Rattle.office_founding.proofs.Reopened.{found_shows_old}
use Rattle.office_founding.proofs.reopening.an_old_store_that_is_opened_again_is_its_office.Goals as goal

pub returns : goal.returns
returns g c image t = found_shows_old c.args.opened.now image t
