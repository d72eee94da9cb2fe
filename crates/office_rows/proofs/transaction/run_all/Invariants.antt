use Rattle.std.proofs.Common.{◌≡◌, map, drop}
use Rattle.office_rows.specs.Statements.{statement_of}
use Rattle.office_rows.proofs.Transactions.{IsUnderWay}
use Rattle.office_rows.proofs.transaction.run_all.Given as goal

abbrev pub invariant-loop-statement : goal.invariant-loop-statement
invariant-loop-statement g l =
    (l.tx.conn.ghost_name ≡ l.initial.tx.conn.ghost_name) × IsUnderWay g.S.Store (map statement_of l.statements) (map statement_of (drop l.statement-index l.statements)) l.fn.conn l.tx.conn.now
