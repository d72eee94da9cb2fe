use Rattle.std.proofs.Common.{List, [], Ok, IsTrue}
use Rattle.sqlite.specs.Held.{state}
use Rattle.sqlite.specs.Order.{Row}
use Rattle.sqlite.specs.State.{HasCleanDisk, IsUnchanged}
use Rattle.journal_verification.specs.Reading.{IsAt, IsGiving}
use Rattle.journal_verification.specs.SideBySide.{ReadsBoth}
use Rattle.journal_verification.specs.Texts.{rows_text}
use Rattle.journal_verification.proofs.side_by_side.readings_differ.Given as goal

abbrev pub invariant-reading : goal.invariant-reading
invariant-reading g l =
    ReadsBoth g.S.Store g.T.Store {A = Unit {0}} l.fn.built.conn l.built.conn l.fn.office.conn l.office.conn (Ok tt) (IsGiving g.T.Store l.fn.office.conn.now)
    (λ _. IsTrue (state g.S.Store l.fn.built.conn.now).is_open → IsUnchanged (state g.S.Store l.fn.built.conn.now) (state g.S.Store l.built.conn.now))
    (λ _. (IsTrue (state g.T.Store l.fn.office.conn.now).is_open → IsUnchanged (state g.T.Store l.fn.office.conn.now) (state g.T.Store l.office.conn.now))
    × (IsGiving g.T.Store l.fn.office.conn.now → IsGiving g.T.Store l.office.conn.now)
    × (HasCleanDisk (state g.S.Store l.built.conn.now) → IsAt g.S.Store (rows_text l.table) l.fn.built.conn.now [] → IsAt g.T.Store (rows_text l.table) l.fn.office.conn.now []
    → (given : List Row) × IsAt g.S.Store (rows_text l.table) l.built.conn.now given × IsAt g.T.Store (rows_text l.table) l.office.conn.now given))
