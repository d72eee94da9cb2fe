use Rattle.std.proofs.Common.{◌≡◌, ◌∷◌, ◌++◌, [], None, refl, subst, sym, ◌∙◌}
use Rattle.sqlite.specs.Effect.{Database}
use Rattle.sqlite.specs.Given.{row_if}
use Rattle.sqlite.specs.Held.{state}
use Rattle.sqlite.proofs.Callers.{unchanged_then}
use Rattle.office_rows.specs.Causes.{HasFailed}
use Rattle.office_store.specs.Schema.{office_schema}
use Rattle.journal_verification.specs.Reading.{HasNext}
use Rattle.journal_verification.specs.Same.{TellsRowids}
use Rattle.journal_verification.specs.Texts.{rowids_text}
use Rattle.journal_verification.proofs.Faults.{passed_on}
use Rattle.journal_verification.proofs.Looks.{looked_itself, looked_on}
use Rattle.journal_verification.proofs.Readings.{at_open, failed_since, found_row, giving_open, still_giving, unchanged_itself}
use Rattle.journal_verification.proofs.Rising.{tells_rowids}
use Rattle.journal_verification.proofs.compare.rowids_rise.Goals as goal

pub reading-init : goal.reading-init
reading-init g c = record {
  same_reference = refl;
  looked = looked_itself (state g.S.Store c.args.rows.now.conn.now) c.requires;
  given = λ clean table at. ([], at, refl);
  giving = λ clean giving. giving;
  unchanged = λ clean is_open. unchanged_itself (state g.S.Store c.args.rows.now.conn.now) is_open;
}

pub read_on-requires : goal.read_on-requires
read_on-requires g c = c.reading.invariant.looked.idle

pub reading-preserved : goal.reading-preserved
reading-preserved g c =
    let kept = c.reading.invariant in
    let more = c.read_on.ensures in
    let on = c.in_ok-read_on.ensures in
    let mid = c.reading.rows.conn.now in
    let new = c.read_on.new.rows in
    record {
      same_reference = more.same_reference ∙ kept.same_reference;
      looked = looked_on _ (state g.S.Store mid) _ kept.looked more.looked;
      given = λ clean table at.
          let before = kept.given (more.looked.clean clean) table at in
          let next = on.next clean (rowids_text table) before.0 before.1 in
          (before.0 ++ c.in-Some.row.now ∷ [], subst (HasNext g.S.Store (rowids_text table) new.conn.now before.0) (sym c.in-Some.ensures) next, c.with-rising.ensures before.0 before.2);
      giving = λ clean giving. still_giving g.S.Store mid new.conn.now new.has_row (found_row new.has_row new.conn.now _ c.in-Some.ensures) (on.next clean) (kept.giving (more.looked.clean clean) giving);
      unchanged = λ clean is_open. unchanged_then _ (state g.S.Store mid) _ (kept.unchanged (more.looked.clean clean) is_open) (on.unchanged clean);
    }

pub returns-in_err-read_on-clause-looked : goal.returns-in_err-read_on-clause-looked
returns-in_err-read_on-clause-looked g c = looked_on _ (state g.S.Store c.reading.rows.conn.now) _ c.reading.invariant.looked c.read_on.ensures.looked

pub returns-in_err-read_on-clause-cause : goal.returns-in_err-read_on-clause-cause
returns-in_err-read_on-clause-cause g c clean has giving =
    let kept = c.reading.invariant in
    let old = state g.S.Store c.args.rows.now.conn.now in
    let mid = state g.S.Store c.reading.rows.conn.now in
    let new = state g.S.Store c.read_on.new.rows.conn.now in
    let before = c.read_on.ensures.looked.clean clean in
    let same = kept.unchanged before (giving_open g.S.Store c.args.rows.now.conn.now giving) in
    let fault = c.in_err-read_on.field-0.0 in
    passed_on (HasFailed old new) c.from_residual.result fault c.from_residual.ensures.1
    (failed_since old mid new kept.looked same fault (c.in_err-read_on.ensures.cause clean (subst (λ (d : Database). d.schema ≡ office_schema) (sym same.0.now_is) has) (kept.giving before giving)))

pub returns-in_default-clause-looked : goal.returns-in_default-clause-looked
returns-in_default-clause-looked g c = looked_on _ (state g.S.Store c.reading.rows.conn.now) _ c.reading.invariant.looked c.read_on.ensures.looked

pub returns-in_default-clause-rowids : goal.returns-in_default-clause-rowids
returns-in_default-clause-rowids g c = λ clean table at.
    let kept = c.reading.invariant in
    let old = c.args.rows.now.conn.now in
    let mid = c.reading.rows.conn.now in
    let new = c.read_on.new.rows in
    let earlier = c.read_on.ensures.looked.clean clean in
    let before = kept.given earlier table at in
    let next = c.in_ok-read_on.ensures.next clean (rowids_text table) before.0 before.1 in
    let ended : None ≡ row_if new.has_row new.conn.now = rw c.in_default.is at c.get.ensures in
    let answered = subst (HasNext g.S.Store (rowids_text table) new.conn.now before.0) (sym ended) next in
    let since = unchanged_then (state g.S.Store old) (state g.S.Store mid) (state g.S.Store new.conn.now) (kept.unchanged earlier (at_open g.S.Store (rowids_text table) old [] at)) (c.in_ok-read_on.ensures.unchanged clean) in
    subst (λ (d : Database). TellsRowids g.S.Store table d c.rises.result) since.0.now_is (tells_rowids g.S.Store table (state g.S.Store new.conn.now).now before.0 c.rises.result answered (c.rises.ensures before.0 before.2))

pub returns-in_default-clause-unchanged : goal.returns-in_default-clause-unchanged
returns-in_default-clause-unchanged g c clean is_open =
    unchanged_then _ (state g.S.Store c.reading.rows.conn.now) _ (c.reading.invariant.unchanged (c.read_on.ensures.looked.clean clean) is_open) (c.in_ok-read_on.ensures.unchanged clean)
