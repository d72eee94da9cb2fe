use Rattle.database_files.proofs.Counts.{counted}
use Rattle.database_files.proofs.disk.NamedDiskDisk.set_len.Goals as goal

pub returns-clause-faults : goal.returns-clause-faults
returns-clause-faults g c = counted (g.D.Disk.faults c.args.self.now.inner) _ _ c.count_astray.ensures.counts.0 c.count_astray.ensures.counts.1

pub returns-then-leads_to_file-clause-frozen : goal.returns-then-leads_to_file-clause-frozen
returns-then-leads_to_file-clause-frozen g c is-frozen =
    let it = c.set_len.ensures.frozen is-frozen in (
      it.0,
      record {
        frozen = it.1.frozen;
        same = it.1.same;
        clean = it.1.clean;
        no_more = it.1.no_more;
        no_fewer = it.1.no_fewer;
      },
    )
