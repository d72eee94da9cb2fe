use Rattle.std.proofs.Common.{◌≡◌, List, [], IsTrue}
use Rattle.sqlite.specs.Held.{state}
use Rattle.sqlite.specs.Order.{Row}
use Rattle.sqlite.specs.State.{HasCleanDisk, IsUnchanged}
use Rattle.journal_faults.specs.declared.table.Table.{Table}
use Rattle.journal_verification.specs.Looked.{HasLooked}
use Rattle.journal_verification.specs.Reading.{IsAt, IsGiving}
use Rattle.journal_verification.specs.Rising.{IsTold}
use Rattle.journal_verification.specs.Texts.{rowids_text}
use Rattle.journal_verification.proofs.compare.rowids_rise.Given as goal

abbrev pub invariant-reading : goal.invariant-reading
invariant-reading g l = record {
  same_reference : l.rows.conn.ghost_name ≡ l.fn.rows.conn.ghost_name;
  looked : HasLooked (state g.S.Store l.fn.rows.conn.now) (state g.S.Store l.rows.conn.now);
  given : HasCleanDisk (state g.S.Store l.rows.conn.now) → (table : Table) → IsAt g.S.Store (rowids_text table) l.fn.rows.conn.now []
      → (given : List Row) × IsAt g.S.Store (rowids_text table) l.rows.conn.now given × IsTold given l.rising;
  giving : HasCleanDisk (state g.S.Store l.rows.conn.now) → IsGiving g.S.Store l.fn.rows.conn.now → IsGiving g.S.Store l.rows.conn.now;
  unchanged : HasCleanDisk (state g.S.Store l.rows.conn.now) → IsTrue (state g.S.Store l.fn.rows.conn.now).is_open → IsUnchanged (state g.S.Store l.fn.rows.conn.now) (state g.S.Store l.rows.conn.now);
}
