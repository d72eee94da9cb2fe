use Rattle.std.proofs.Common.{Some, inl}
use Rattle.journal_verification.specs.Same.{TellsRows, TellsTable}
use Rattle.journal_verification.proofs.SideBySide.{compares_as, fails, rowids_behind}
use Rattle.journal_verification.proofs.compare.table_differs.Goals as goal

pub returns-in_err-difference : goal.returns-in_err-difference
returns-in_err-difference g c = let rows = c.in_err-difference.ensures in fails g.S.Store g.T.Store _ _ _ _ _ c.in_err-difference.field-0.0 c.from_residual.ensures.1 rows.built rows.office rows.cause

pub returns-in-Some : goal.returns-in-Some
returns-in-Some g c =
    compares_as g.S.Store g.T.Store (TellsRows g.S.Store g.T.Store c.args.table) (TellsTable g.S.Store g.T.Store c.args.table) _ _ _ _ _ (Some c.in-Some.row) c.in_ok-difference.ensures (λ told. inl (rw c.in-Some.is at told))

pub returns-in-None : goal.returns-in-None
returns-in-None g c =
    let rowids = c.rowids_differ.ensures in
    rowids_behind g.S.Store g.T.Store c.args.table c.rowids_differ.result c.args.built.now c.rows_differ.new.built c.args.office.now c.rows_differ.new.office c.rowids_differ.new.conn _ c.in-None.is c.in_ok-difference.ensures
    rowids.looked rowids.rowids rowids.unchanged rowids.cause
