use Rattle.std.proofs.Common.{rules, ◌≡◌, [], IfErr, IfOk, inr, refl, subst, sym}
use Rattle.journal_verification.specs.Looked.{HasLooked}
use Rattle.std.specs.Prelude.{OnOk}
use Rattle.sqlite.specs.State.{HasCleanDisk, IsUnchanged}
use Rattle.office_rows.specs.Causes.{HasFailed}
use Rattle.sqlite.specs.Effect.{Database}
use Rattle.sqlite.specs.Held.{state}
use Rattle.office_rows.specs.Queries.{IsQuery}
use Rattle.office_store.specs.Schema.{office_schema}
use Rattle.journal_verification.specs.Reading.{IsAt}
use Rattle.journal_verification.specs.Same.{TellsRowids}
use Rattle.journal_verification.specs.Texts.{rowids_text}
use Rattle.journal_verification.proofs.Faults.{rowids_failed}
use Rattle.journal_verification.proofs.Looks.{looked_on}
use Rattle.journal_verification.proofs.Queries.{rowids_are_asked}
use Rattle.journal_verification.proofs.Readings.{begun, begun_looked, failure_since, refused_looked, refused_so, unchanged_since}
use Rattle.journal_verification.proofs.compare.have_rowids.Goals as goal

pub rowids_rise-requires : goal.rowids_rise-requires
rowids_rise-requires g c =
    let query = subst IsQuery (sym c.rowids.ensures) (rowids_are_asked c.args.table) in
    (begun_looked g.S.Store c.rowids.result.now query c.args.conn.now c.in-Ok.rows.conn.now c.requires c.in-Ok.ensures.mode c.in-Ok.ensures.begun c.in-Ok.ensures.survives).idle

pub returns-in-Ok-clause-looked : goal.returns-in-Ok-clause-looked
returns-in-Ok-clause-looked g c =
    let same : c.rowids_rise.new.rows.conn.now ≡ c.conn-1.given.0 = search rules in
    let query = subst IsQuery (sym c.rowids.ensures) (rowids_are_asked c.args.table) in
    let first = begun_looked g.S.Store c.rowids.result.now query c.args.conn.now c.in-Ok.rows.conn.now c.requires c.in-Ok.ensures.mode c.in-Ok.ensures.begun c.in-Ok.ensures.survives in
    subst (λ h. HasLooked (state g.S.Store c.args.conn.now) (state g.S.Store h)) same
    (looked_on (state g.S.Store c.args.conn.now) (state g.S.Store c.in-Ok.rows.conn.now) (state g.S.Store c.rowids_rise.new.rows.conn.now) first c.rowids_rise.ensures.looked)

pub returns-in-Ok-clause-rowids : goal.returns-in-Ok-clause-rowids
returns-in-Ok-clause-rowids g c clean =
    let same : c.rowids_rise.new.rows.conn.now ≡ c.conn-1.given.0 = search rules in
    let late = subst (λ h. HasCleanDisk (state g.S.Store h)) (sym same) clean in
    let query = subst IsQuery (sym c.rowids.ensures) (rowids_are_asked c.args.table) in
    let mid = c.in-Ok.rows.conn.now in
    let start = begun g.S.Store c.rowids.result.now query c.args.conn.now mid (c.in-Ok.ensures.begun (c.rowids_rise.ensures.looked.clean late)) in
    let at = subst (λ s. IsAt g.S.Store s mid []) c.rowids.ensures start.0 in
    subst (λ (d : Database). IfOk c.rowids_rise.result (TellsRowids g.S.Store c.args.table d)) start.1.0.now_is (c.rowids_rise.ensures.rowids late c.args.table at)

pub returns-in-Ok-clause-unchanged : goal.returns-in-Ok-clause-unchanged
returns-in-Ok-clause-unchanged g c clean =
    let same : c.rowids_rise.new.rows.conn.now ≡ c.conn-1.given.0 = search rules in
    let late = subst (λ h. HasCleanDisk (state g.S.Store h)) (sym same) clean in
    let query = subst IsQuery (sym c.rowids.ensures) (rowids_are_asked c.args.table) in
    let mid = c.in-Ok.rows.conn.now in
    let first = begun_looked g.S.Store c.rowids.result.now query c.args.conn.now mid c.requires c.in-Ok.ensures.mode c.in-Ok.ensures.begun c.in-Ok.ensures.survives in
    let start = begun g.S.Store c.rowids.result.now query c.args.conn.now mid (c.in-Ok.ensures.begun (c.rowids_rise.ensures.looked.clean late)) in
    subst (λ h. OnOk c.rowids_rise.result (IsUnchanged (state g.S.Store c.args.conn.now) (state g.S.Store h))) same
    (unchanged_since (state g.S.Store c.args.conn.now) (state g.S.Store mid) (state g.S.Store c.rowids_rise.new.rows.conn.now) first start.1 c.rowids_rise.result (c.rowids_rise.ensures.unchanged late start.1.0.is_open))

pub returns-in-Ok-clause-cause : goal.returns-in-Ok-clause-cause
returns-in-Ok-clause-cause g c clean has =
    let same : c.rowids_rise.new.rows.conn.now ≡ c.conn-1.given.0 = search rules in
    let late = subst (λ h. HasCleanDisk (state g.S.Store h)) (sym same) clean in
    let query = subst IsQuery (sym c.rowids.ensures) (rowids_are_asked c.args.table) in
    let mid = c.in-Ok.rows.conn.now in
    let first = begun_looked g.S.Store c.rowids.result.now query c.args.conn.now mid c.requires c.in-Ok.ensures.mode c.in-Ok.ensures.begun c.in-Ok.ensures.survives in
    let start = begun g.S.Store c.rowids.result.now query c.args.conn.now mid (c.in-Ok.ensures.begun (c.rowids_rise.ensures.looked.clean late)) in
    let at = subst (λ s. IsAt g.S.Store s mid []) c.rowids.ensures start.0 in
    subst (λ h. IfErr c.rowids_rise.result (HasFailed (state g.S.Store c.args.conn.now) (state g.S.Store h))) same
    (failure_since (state g.S.Store c.args.conn.now) (state g.S.Store mid) (state g.S.Store c.rowids_rise.new.rows.conn.now) first start.1 c.rowids_rise.result (c.rowids_rise.ensures.cause late (subst (λ (d : Database). d.schema ≡ office_schema) (sym start.1.0.now_is) has) (rowids_text c.args.table, (c.args.table, inr refl), [], at)))

pub returns-in-Err-clause-looked : goal.returns-in-Err-clause-looked
returns-in-Err-clause-looked g c =
    let query = subst IsQuery (sym c.rowids.ensures) (rowids_are_asked c.args.table) in
    refused_looked g.S.Store c.rowids.result.now query c.args.conn.now c.query.follows.lender-at-none c.query.result c.in-Err.error c.in-Err.is c.requires c.query.follows.holds-at-none

pub returns-in-Err-clause-cause : goal.returns-in-Err-clause-cause
returns-in-Err-clause-cause g c clean has =
    let new = c.query.follows.lender-at-none in
    rowids_failed c.args.table c.rowids.result.now c.rowids.ensures (state g.S.Store c.args.conn.now) (state g.S.Store new) c.requires has c.fault_of_error.result
    (record { error = c.in-Err.error; failed = refused_so g.S.Store c.rowids.result.now c.args.conn.now new c.query.result c.in-Err.error c.in-Err.is c.query.follows.holds-at-none clean; fault = c.fault_of_error.ensures })
