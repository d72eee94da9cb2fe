use Rattle.office_founding.proofs.Reopened.{closed_holds, crashed_holds}
use Rattle.office_founding.proofs.reopening.closed_files_hold_their_office.Goals as goal

pub returns-clause-now : goal.returns-clause-now
returns-clause-now g c = closed_holds c.args.closed.now c.args.files.now

pub returns-clause-crash : goal.returns-clause-crash
returns-clause-crash g c = crashed_holds c.args.closed.now c.args.files.now
