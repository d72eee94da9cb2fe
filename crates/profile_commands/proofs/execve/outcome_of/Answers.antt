use Rattle.profile_commands.proofs.OutcomeFacts.{by_root, of_file}
use Rattle.profile_commands.proofs.execve.outcome_of.Goals as goal

pub returns-in-ByRoot : goal.returns-in-ByRoot
returns-in-ByRoot c = rw c.in-ByRoot.is (by_root _ c.execve_root.result c.done.result c.execve_root.ensures c.done.ensures)

pub returns-in-Ok : goal.returns-in-Ok
returns-in-Ok c = rw c.in-OfFile.is (of_file _ c.in-Ok.after _ c.done-in-Ok.result c.in-Ok.ensures.after c.done-in-Ok.ensures)
