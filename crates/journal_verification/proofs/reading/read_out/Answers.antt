use Rattle.std.proofs.Common.{◌≡◌, refl, subst, sym, ◌∙◌}
use Rattle.sqlite.specs.Effect.{Database}
use Rattle.sqlite.specs.Given.{row_if}
use Rattle.sqlite.specs.Held.{state}
use Rattle.sqlite.proofs.Callers.{unchanged_then}
use Rattle.office_rows.specs.Causes.{HasFailed}
use Rattle.office_store.specs.Schema.{office_schema}
use Rattle.journal_verification.proofs.Faults.{passed_on}
use Rattle.journal_verification.proofs.Looks.{looked_itself, looked_on}
use Rattle.journal_verification.proofs.Readings.{failed_since, giving_open, giving_since, none_came, one_more_came, unchanged_itself}
use Rattle.journal_verification.proofs.reading.read_out.Goals as goal

pub reading-init : goal.reading-init
reading-init g c = record {
  same_reference = refl;
  looked = looked_itself (state g.S.Store c.args.rows.now.conn.now) c.requires;
  come = λ clean. none_came g.S.Store c.args.rows.now.conn.now;
  unchanged = λ clean is_open. unchanged_itself (state g.S.Store c.args.rows.now.conn.now) is_open;
}

pub reading-preserved : goal.reading-preserved
reading-preserved g c =
    let kept = c.reading.invariant in
    let more = c.read_on.ensures in
    let mid = c.reading.rows.conn.now in
    let new = c.read_on.new.rows in
    record {
      same_reference = more.same_reference ∙ kept.same_reference;
      looked = looked_on _ (state g.S.Store mid) _ kept.looked more.looked;
      come = λ clean. one_more_came g.S.Store c.args.rows.now.conn.now mid new.conn.now _ (row_if new.has_row new.conn.now) c.in-Some.ensures (kept.come (more.looked.clean clean)) (c.in_ok-read_on.ensures.next clean);
      unchanged = λ clean is_open. unchanged_then _ (state g.S.Store mid) _ (kept.unchanged (more.looked.clean clean) is_open) (c.in_ok-read_on.ensures.unchanged clean);
    }

pub returns-in_err-read_on-clause-cause : goal.returns-in_err-read_on-clause-cause
returns-in_err-read_on-clause-cause g c clean has giving =
    let kept = c.reading.invariant in
    let old = state g.S.Store c.args.rows.now.conn.now in
    let mid = state g.S.Store c.reading.rows.conn.now in
    let new = state g.S.Store c.read_on.new.rows.conn.now in
    let before = c.read_on.ensures.looked.clean clean in
    let same = kept.unchanged before (giving_open g.S.Store c.args.rows.now.conn.now giving) in
    let fault = c.in_err-read_on.field-0.0 in
    passed_on (HasFailed old new) c.from_residual.result fault c.from_residual.ensures.1
    (failed_since old mid new kept.looked same fault
    (c.in_err-read_on.ensures.cause clean (subst (λ (d : Database). d.schema ≡ office_schema) (sym same.0.now_is) has) (giving_since g.S.Store c.args.rows.now.conn.now c.reading.rows.conn.now (kept.come before) giving)))
