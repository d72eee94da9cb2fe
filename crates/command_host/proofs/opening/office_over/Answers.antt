use Rattle.std.proofs.Common.{refl}
use Rattle.command_host.proofs.opening.office_over.Goals as goal

pub returns-in-Err-clause-fault : goal.returns-in-Err-clause-fault
returns-in-Err-clause-fault g c = (
  c.in-Err.fault,
  refl,
  (c.in-Err.conn, record { foreign = c.in-Err.ensures.foreign; told = c.in-Err.ensures.told }, (c.close.result, c.close.ensures.ended)),
)
