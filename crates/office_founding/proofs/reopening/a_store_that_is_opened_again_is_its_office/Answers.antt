use Rattle.office_founding.proofs.Reopened.{found_shows}
use Rattle.office_founding.proofs.reopening.a_store_that_is_opened_again_is_its_office.Goals as goal

pub returns : goal.returns
returns g c = found_shows c.args.opened.now
