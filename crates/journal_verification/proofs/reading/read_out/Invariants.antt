use Rattle.std.proofs.Common.{◌≡◌, IsTrue}
use Rattle.sqlite.specs.Held.{state}
use Rattle.sqlite.specs.State.{HasCleanDisk, IsUnchanged}
use Rattle.journal_verification.specs.Looked.{HasLooked}
use Rattle.journal_verification.proofs.Readings.{HaveCome}
use Rattle.journal_verification.proofs.reading.read_out.Given as goal

abbrev pub invariant-reading : goal.invariant-reading
invariant-reading g l = record {
  same_reference : l.rows.conn.ghost_name ≡ l.fn.rows.conn.ghost_name;
  looked : HasLooked (state g.S.Store l.fn.rows.conn.now) (state g.S.Store l.rows.conn.now);
  come : HasCleanDisk (state g.S.Store l.rows.conn.now) → HaveCome g.S.Store l.fn.rows.conn.now l.rows.conn.now;
  unchanged : HasCleanDisk (state g.S.Store l.rows.conn.now) → IsTrue (state g.S.Store l.fn.rows.conn.now).is_open → IsUnchanged (state g.S.Store l.fn.rows.conn.now) (state g.S.Store l.rows.conn.now);
}
