use Rattle.changing_commands.proofs.LeftFacts.{left}
use Rattle.changing_commands.proofs.reopening.a_rebuilt_office_is_left_in_its_files.Goals as goal

pub returns : goal.returns
returns g c = λ files path image built it. left g.D.Disk it.office _ it.closed it.rebuilt.rebuilt.history (λ clean. (it.rebuilt.rebuilt.stands clean).is_of)
