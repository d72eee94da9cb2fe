use Rattle.database_files.proofs.Counts.{counted}
use Rattle.database_files.proofs.disk.len_by_name.Goals as goal

pub returns-clause-faults : goal.returns-clause-faults
returns-clause-faults g c = rw c.in_ok-len.ensures.faults (counted (g.D.Disk.faults c.args.inner.now) _ _ c.count_astray.ensures.counts.0 c.count_astray.ensures.counts.1)
