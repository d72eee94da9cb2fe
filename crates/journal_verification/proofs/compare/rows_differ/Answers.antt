use Rattle.std.proofs.Common.{rules, ◌≡◌, subst, sym}
use Rattle.sqlite.specs.Held.{state}
use Rattle.office_rows.specs.Queries.{IsQuery}
use Rattle.journal_verification.specs.Same.{TellsRows}
use Rattle.journal_verification.specs.SideBySide.{ComparesBoth}
use Rattle.journal_verification.proofs.Looks.{looked_itself}
use Rattle.journal_verification.proofs.Queries.{rows_are_asked}
use Rattle.journal_verification.proofs.Readings.{refused_looked}
use Rattle.journal_verification.proofs.SideBySide.{begun_built, rows_begun}
use Rattle.journal_verification.proofs.compare.rows_differ.Goals as goal

pub office_differs-requires : goal.office_differs-requires
office_differs-requires g c =
    let start = rows_begun g.S.Store c.args.table c.rows.result.now c.rows.ensures c.args.built.now c.in-Ok.rows.conn.now c.requires.built c.in-Ok.ensures.mode c.in-Ok.ensures.begun c.in-Ok.ensures.survives in
    record { built = start.0.idle; office = c.requires.office }

pub returns-in-Ok : goal.returns-in-Ok
returns-in-Ok g c =
    let same : c.office_differs.new.built.conn.now ≡ c.built-1.given.0 = search rules in
    let r = c.office_differs.result in
    let mid = c.in-Ok.rows.conn.now in
    let left = c.office_differs.new.office in
    let start = rows_begun g.S.Store c.args.table c.rows.result.now c.rows.ensures c.args.built.now mid c.requires.built c.in-Ok.ensures.mode c.in-Ok.ensures.begun c.in-Ok.ensures.survives in
    subst (λ h. ComparesBoth g.S.Store g.T.Store c.args.built.now h c.args.office.now left r (TellsRows g.S.Store g.T.Store c.args.table)) same
    (begun_built g.S.Store g.T.Store c.args.table r c.args.built.now mid c.office_differs.new.built.conn.now c.args.office.now left start.0 start.1 c.office_differs.ensures.looks)

pub returns-in-Err : goal.returns-in-Err
returns-in-Err g c =
    let query = subst IsQuery (sym c.rows.ensures) (rows_are_asked c.args.table) in
    record {
      built = refused_looked g.S.Store c.rows.result.now query c.args.built.now c.query.follows.lender-at-none c.query.result _ c.in-Err.is c.requires.built c.query.follows.holds-at-none;
      office = looked_itself (state g.T.Store c.args.office.now) c.requires.office;
      of_built = λ clean. tt;
      of_office = λ clean. tt;
      cause = λ clean has giving. tt;
    }
