use Rattle.office_policy.specs.TablesOf.{tables_of}
use Rattle.office_founding.proofs.Reopened.{closed_holds, crashed_holds}
use Rattle.review_office.proofs.reopening.files_of_a_closed_office_have_its_history.Goals as goal

pub returns-clause-now : goal.returns-clause-now
returns-clause-now g c = λ h office clean is_open copied. closed_holds c.args.closed.now c.args.files.now (tables_of h) (office.tables clean is_open) copied

pub returns-clause-crash : goal.returns-clause-crash
returns-clause-crash g c = λ h office clean is_open copied. crashed_holds c.args.closed.now c.args.files.now (tables_of h) (office.tables clean is_open) copied
