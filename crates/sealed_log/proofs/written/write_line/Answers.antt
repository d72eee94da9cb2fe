use Rattle.std.proofs.Common.{inl}
use Rattle.sealed_log.proofs.DiskFacts.{crash_in_write, failed_on, seen_in_write, settle_line}
use Rattle.sealed_log.proofs.FaultFacts.{failed_later, failed_sooner, later_by_write, of_write, write_failed}
use Rattle.sealed_log.proofs.written.write_line.Goals as goal

pub returns-in-Ok-sync-clause-added : goal.returns-in-Ok-sync-clause-added
returns-in-Ok-sync-clause-added g c = λ bytes is has. record {
  became = settle_line g.D.Disk c.args.disk.now c.write_at.new.self c.sync.new.self bytes c.args.line.now c.args.end is has
      c.write_at.ensures.others (c.in-Ok.ensures.written c.requires.some) c.sync.ensures.seen c.in-Ok-sync.ensures.durable;
  crash = λ left may. crash_in_write g.D.Disk c.args.disk.now c.write_at.new.self bytes c.args.end _ is has.settled c.write_at.ensures.crash
      left (c.sync.ensures.crash left may);
}

pub returns-in-Err-sync-clause-added : goal.returns-in-Err-sync-clause-added
returns-in-Err-sync-clause-added g c = λ bytes is has. record {
  became = tt;
  crash = λ left may. crash_in_write g.D.Disk c.args.disk.now c.write_at.new.self bytes c.args.end _ is has.settled c.write_at.ensures.crash
      left (c.sync.ensures.crash left may);
}

pub returns-in-Ok-cut-clause-added : goal.returns-in-Ok-cut-clause-added
returns-in-Ok-cut-clause-added g c = λ bytes is has. record {
  became = c.in-Ok-cut.ensures.cut bytes _ is
      (seen_in_write g.D.Disk c.args.disk.now c.write_at.new.self bytes c.args.end _ is has.seen c.write_at.ensures.others);
  crash = c.cut.ensures.crash bytes _ is
      (crash_in_write g.D.Disk c.args.disk.now c.write_at.new.self bytes c.args.end _ is has.settled c.write_at.ensures.crash);
}

pub returns-in-Err-cut-clause-added : goal.returns-in-Err-cut-clause-added
returns-in-Err-cut-clause-added g c = λ bytes is has. record {
  became = tt;
  crash = c.cut.ensures.crash bytes _ is
      (crash_in_write g.D.Disk c.args.disk.now c.write_at.new.self bytes c.args.end _ is has.settled c.write_at.ensures.crash);
}

pub returns-in-Err-sync-clause-lost : goal.returns-in-Err-sync-clause-lost
returns-in-Err-sync-clause-lost g c = inl c.in-Err-sync.ensures.usable

pub returns-in-Err-cut-clause-lost : goal.returns-in-Err-cut-clause-lost
returns-in-Err-cut-clause-lost g c = failed_on (g.D.Disk.is_usable c.cut.new.disk) _ _ _ c.in-Err.ensures.faults.0 c.in-Err-cut.ensures.failed

pub returns-in-Err-sync-clause-word : goal.returns-in-Err-sync-clause-word
returns-in-Err-sync-clause-word g c =
    let call = write_failed g.D.Disk c.write_at.new.self c.sync.new.self c.in-Err-sync.error c.in-Err-sync.ensures.faults.0 c.in-Err-sync.ensures.tally in
    of_write g.D.Disk c.args.disk.now c.sync.new.self c.in-Err-sync.error _
    (failed_later g.D.Disk c.args.disk.now c.write_at.new.self c.sync.new.self _ (later_by_write g.D.Disk c.args.disk.now c.write_at.new.self c.write_at.result c.write_at.ensures.faults c.write_at.ensures.tally) call) c.into.ensures

pub returns-in-Ok-cut-clause-word : goal.returns-in-Ok-cut-clause-word
returns-in-Ok-cut-clause-word g c =
    let call = write_failed g.D.Disk c.args.disk.now c.write_at.new.self c.in-Err.error c.in-Err.ensures.faults.0 c.in-Err.ensures.tally in
    of_write g.D.Disk c.args.disk.now c.cut.new.disk c.in-Err.error _
    (failed_sooner g.D.Disk c.args.disk.now c.write_at.new.self c.cut.new.disk _ call c.cut.ensures.counts) c.into-in-Ok-cut.ensures

pub returns-in-Err-cut-clause-word : goal.returns-in-Err-cut-clause-word
returns-in-Err-cut-clause-word g c =
    let call = write_failed g.D.Disk c.args.disk.now c.write_at.new.self c.in-Err.error c.in-Err.ensures.faults.0 c.in-Err.ensures.tally in
    of_write g.D.Disk c.args.disk.now c.cut.new.disk c.in-Err.error _
    (failed_sooner g.D.Disk c.args.disk.now c.write_at.new.self c.cut.new.disk _ call c.cut.ensures.counts) c.into-in-Err-cut.ensures
