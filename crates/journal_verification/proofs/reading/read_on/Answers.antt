use Rattle.sqlite.specs.Held.{state}
use Rattle.journal_verification.proofs.Readings.{advance_left, giving_failed, gives_next, looked_so}
use Rattle.sqlite.specs.Given.{row_if}
use Rattle.journal_verification.proofs.reading.read_on.Goals as goal

pub returns-in-Ok-clause-looked : goal.returns-in-Ok-clause-looked
returns-in-Ok-clause-looked g c =
    let old = state g.S.Store c.args.rows.now.conn.now in
    let new = state g.S.Store c.advance.new.self.conn.now in
    looked_so old new c.requires c.advance.ensures.mode c.advance.ensures.survives (λ clean. advance_left old new c.advance.result (c.advance.ensures.same clean) (c.advance.ensures.kept clean))

pub returns-in-Ok-clause-next : goal.returns-in-Ok-clause-next
returns-in-Ok-clause-next g c clean =
    gives_next g.S.Store c.args.rows.now.conn.now c.advance.new.self.conn.now (row_if c.advance.new.self.has_row c.advance.new.self.conn.now) (c.in-Ok.ensures.same clean) (c.in-Ok.ensures.ok clean)

pub returns-in-Err-clause-looked : goal.returns-in-Err-clause-looked
returns-in-Err-clause-looked g c =
    let old = state g.S.Store c.args.rows.now.conn.now in
    let new = state g.S.Store c.advance.new.self.conn.now in
    looked_so old new c.requires c.advance.ensures.mode c.advance.ensures.survives (λ clean. advance_left old new c.advance.result (c.advance.ensures.same clean) (c.advance.ensures.kept clean))

pub returns-in-Err-clause-cause : goal.returns-in-Err-clause-cause
returns-in-Err-clause-cause g c clean has giving =
    giving_failed g.S.Store c.args.rows.now.conn.now c.advance.new.self.conn.now c.in-Err.error c.requires has (c.in-Err.ensures.err clean) giving c.fault_of_error.result c.fault_of_error.ensures
