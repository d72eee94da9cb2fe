use Rattle.std.proofs.Common.{◌∙◌, ap}
use Rattle.sqlite.specs.Held.{state}
use Rattle.office_rows.specs.Queries.{IsAsItWas}
use Rattle.office_founding.specs.Form.{has_old_tables}
use Rattle.office_store.specs.Shown.{LeavesNoMore}
use Rattle.office_founding.proofs.Forms.{fails, old_tables}
use Rattle.office_founding.proofs.OldReads.{office_has_old_tables}
use Rattle.office_policy.specs.TablesOf.{tables_of}
use Rattle.review_office.proofs.Openings.{either, is_as_it_was, leaves_no_more}
use Rattle.review_office.proofs.office.Office.over.Goals as goal

pub returns-in-Ok-clause-office : goal.returns-in-Ok-clause-office
returns-in-Ok-clause-office g c = λ h lawful shows. record {
  idle = c.in-Ok.ensures.idle;
  lawful = lawful;
  tables = λ clean. (c.in-Ok.ensures.read (old_tables (state g.S.Store c.args.conn).now.schema (c.in-Ok.ensures.form clean).tables)).shown (tables_of h) (λ is_open. shows) clean;
}

pub returns-in-Ok-clause-over : goal.returns-in-Ok-clause-over
returns-in-Ok-clause-over g c = record {
  clean = λ clean. (c.in-Ok.ensures.read (old_tables (state g.S.Store c.args.conn).now.schema (c.in-Ok.ensures.form clean).tables)).leaves.clean clean;
  stands = λ h lawful shows clean.
      let read = c.in-Ok.ensures.read (old_tables (state g.S.Store c.args.conn).now.schema (c.in-Ok.ensures.form clean).tables) in
      let shown = read.shown (tables_of h) (λ is_open. shows) clean in
      let is_open = (read.leaves.answered clean).1 in
      record {
        is_of = record { idle = c.in-Ok.ensures.idle; lawful = lawful; tables = λ clean. shown };
        is_open = is_open;
        leaves = read.leaves.settled (tables_of h) (shown is_open);
      };
}

pub returns-in-Ok-clause-opened : goal.returns-in-Ok-clause-opened
returns-in-Ok-clause-opened g c = λ clean. (c.in-Ok.ensures.read (old_tables (state g.S.Store c.args.conn).now.schema (c.in-Ok.ensures.form clean).tables)).crash clean

pub returns-in-Ok-clause-unopened : goal.returns-in-Ok-clause-unopened
returns-in-Ok-clause-unopened g c = λ t shows clean. (c.in-Ok.ensures.old t shows clean).0

pub returns-in-Err-clause-old : goal.returns-in-Err-clause-old
returns-in-Err-clause-old g c = λ t shows clean. (c.in-Err.ensures.old t shows clean).1

pub returns-in-Err-clause-known : goal.returns-in-Err-clause-known
returns-in-Err-clause-known g c = λ h lawful shows clean.
    fails (state g.S.Store c.args.conn) (state g.S.Store c.check_office.new.conn) _
    ((c.in-Err.ensures.read (ap has_old_tables shows.office.schema ∙ office_has_old_tables)).cause (tables_of h) (λ is_open. shows) clean)

pub returns-in-Err-clause-same : goal.returns-in-Err-clause-same
returns-in-Err-clause-same g c = λ settled clean.
    let old = c.args.conn in
    let new = c.check_office.new.conn in
    either (has_old_tables (state g.S.Store old).now.schema) (IsAsItWas (state g.S.Store old) (state g.S.Store new))
    (λ there. (c.in-Err.ensures.read there).same settled clean)
    (λ none. is_as_it_was g.S.Store old new (c.in-Err.ensures.foreign none).1)

pub returns-in-Err-clause-refused : goal.returns-in-Err-clause-refused
returns-in-Err-clause-refused g c =
    let old = c.args.conn in
    let new = c.check_office.new.conn in
    either (has_old_tables (state g.S.Store old).now.schema) (LeavesNoMore (state g.S.Store old) (state g.S.Store new))
    (λ there. (c.in-Err.ensures.read there).crash)
    (λ none. leaves_no_more g.S.Store old new (c.in-Err.ensures.foreign none).1)
