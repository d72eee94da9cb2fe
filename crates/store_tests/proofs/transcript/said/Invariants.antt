use Rattle.sqlite.specs.Held.{state}
use Rattle.office_store.specs.Shown.{IsIdle}
use Rattle.store_tests.proofs.transcript.said.Given as goal

abbrev pub invariant-loop-line : goal.invariant-loop-line
invariant-loop-line g l = IsIdle (state g.S.Store l.conn)
