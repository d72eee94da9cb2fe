use Rattle.office_founding.proofs.Reopened.{shown_holds, written_holds}
use Rattle.office_founding.proofs.reopening.files_left_by_a_crash_hold_an_office.Goals as goal

pub returns-clause-shown : goal.returns-clause-shown
returns-clause-shown g c numbered = shown_holds c.args.crashed.now numbered g.met.D.Disk.seen_may_stay

pub returns-clause-written : goal.returns-clause-written
returns-clause-written g c numbered = written_holds c.args.crashed.now numbered
