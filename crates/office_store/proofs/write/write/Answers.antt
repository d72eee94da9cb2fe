use Rattle.std.proofs.Common.{inl, inr, ◌<◌, length, map, sym, subst, arith}
use Rattle.sqlite.specs.Held.{state}
use Rattle.std.proofs.Math.ListN.{length-map}
use Rattle.office_rows.specs.Causes.{HasFailed}
use Rattle.office_rows.specs.Statements.{statement_of}
use Rattle.office_store.proofs.Calls.{write_done, write_refused}
use Rattle.office_store.proofs.write.write.Goals as goal

pub returns-in-Ok-clause-write : goal.returns-in-Ok-clause-write
returns-in-Ok-clause-write g c =
    let some : 0 < length (map statement_of c.args.statements.now) = omega (arith, c.requires.some, length-map c.args.statements.now statement_of) in
    write_done g.S.Store (map statement_of c.args.statements.now) some c.args.conn.now c.run_all.new.conn c.requires.idle c.run_all.ensures.mode
    (g.met.S.Store.settled c.run_all.new.conn.store) c.run_all.ensures.was_open c.run_all.ensures.crash _ c.in-Ok.ensures.all

pub returns-in-Err-clause-write : goal.returns-in-Err-clause-write
returns-in-Err-clause-write g c =
    let some : 0 < length (map statement_of c.args.statements.now) = omega (arith, c.requires.some, length-map c.args.statements.now statement_of) in
    write_refused g.S.Store (map statement_of c.args.statements.now) some c.args.conn.now c.run_all.new.conn c.requires.idle c.run_all.ensures.mode
    (g.met.S.Store.settled c.run_all.new.conn.store) c.run_all.ensures.was_open c.run_all.ensures.crash _ c.in-Err.error c.fault_of_error.result c.fault_of_error.ensures c.in-Err.ensures.none c.in-Err.ensures.cause

pub returns-in-Err-clause-cause : goal.returns-in-Err-clause-cause
returns-in-Err-clause-cause g c clean =
    let old = c.args.conn.now in
    let new = c.run_all.new.conn in
    let fault = c.fault_of_error.ensures in
    record {
      cause = record { error = c.in-Err.error; failed = c.in-Err.ensures.cause clean; fault = fault };
      met = elim (c.in-Err.ensures.met clean) [
        | inl failed ↦ inl (subst (HasFailed (state g.S.Store old) (state g.S.Store new)) (sym fault) failed)
        | inr refused ↦ inr (record { error = c.in-Err.error; refused = refused; fault = fault })
      ];
    }
