use Rattle.std.proofs.Common.{rules, ◌≡◌, []}
use Rattle.sqlite.specs.Held.{state}
use Rattle.journal_verification.specs.Reading.{IsAt}
use Rattle.journal_verification.specs.Same.{TellsRows}
use Rattle.journal_verification.specs.SideBySide.{ComparesBoth}
use Rattle.journal_verification.specs.Texts.{rows_text}
use Rattle.journal_verification.proofs.Faults.{rows_failed}
use Rattle.journal_verification.proofs.Looks.{looked_itself}
use Rattle.journal_verification.proofs.Queries.{rows_are_asked}
use Rattle.journal_verification.proofs.Readings.{refused_looked, refused_so}
use Rattle.journal_verification.proofs.SideBySide.{begun_office, rows_begun}
use Rattle.journal_verification.proofs.compare.office_differs.Goals as goal
use Rattle.std.proofs.Common.{subst, sym}
use Rattle.office_rows.specs.Queries.{IsQuery}

pub readings_differ-requires : goal.readings_differ-requires
readings_differ-requires g c =
    let start = rows_begun g.T.Store c.args.table c.rows.result.now c.rows.ensures c.args.office.now c.in-Ok.rows.conn.now c.requires.office c.in-Ok.ensures.mode c.in-Ok.ensures.begun c.in-Ok.ensures.survives in
    record { built = c.requires.built; office = start.0.idle }

pub returns-in-Ok-clause-looks : goal.returns-in-Ok-clause-looks
returns-in-Ok-clause-looks g c =
    let same : c.readings_differ.new.office.conn.now ≡ c.office-1.given.0 = search rules in
    let built = c.args.built.now.conn.now in
    let left = c.readings_differ.new.built.conn.now in
    let r = c.readings_differ.result in
    let mid = c.in-Ok.rows.conn.now in
    let start = rows_begun g.T.Store c.args.table c.rows.result.now c.rows.ensures c.args.office.now mid c.requires.office c.in-Ok.ensures.mode c.in-Ok.ensures.begun c.in-Ok.ensures.survives in
    subst (λ h. ComparesBoth g.S.Store g.T.Store built left c.args.office.now h r (λ a b d. IsAt g.S.Store (rows_text c.args.table) built [] → TellsRows g.S.Store g.T.Store c.args.table a b d)) same
    (begun_office g.S.Store g.T.Store c.args.table r built left c.args.office.now mid c.readings_differ.new.office.conn.now start.0 start.1 c.readings_differ.ensures.looks)

pub returns-in-Err-clause-looks : goal.returns-in-Err-clause-looks
returns-in-Err-clause-looks g c =
    let query = subst IsQuery (sym c.rows.ensures) (rows_are_asked c.args.table) in
    let sql = c.rows.result.now in
    let old = c.args.office.now in
    let new = c.query.follows.lender-at-none in
    record {
      built = looked_itself (state g.S.Store c.args.built.now.conn.now) c.requires.built;
      office = refused_looked g.T.Store sql query old new c.query.result c.in-Err.error c.in-Err.is c.requires.office c.query.follows.holds-at-none;
      of_built = λ clean. tt;
      of_office = λ clean. tt;
      cause = λ clean has giving.
          rows_failed c.args.table sql c.rows.ensures (state g.T.Store old) (state g.T.Store new) c.requires.office has c.fault_of_error.result
          (record { error = c.in-Err.error; failed = refused_so g.T.Store sql old new c.query.result c.in-Err.error c.in-Err.is c.query.follows.holds-at-none clean; fault = c.fault_of_error.ensures });
    }
