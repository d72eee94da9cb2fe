use Rattle.sqlite.specs.Held.{state}
use Rattle.office_founding.proofs.Reopened.{opened_shows}
use Rattle.office_founding.proofs.reopening.opened_trees_of_an_office_show_it.Goals as goal

pub returns : goal.returns
returns g c t = opened_shows (state g.S.Store c.args.opened.now) t
